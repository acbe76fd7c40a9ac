use Rattle.std.proofs.Common.{◌++◌, ◌<◌, ◌^◌, ℕ, List, arith, length, sym, ◌∙◌}
use Rattle.std.proofs.Math.Nat.{one-le-pow}
use Rattle.std.specs.Str.Parse.{digits_value}
use Rattle.tabled_decimal.specs.Integers.{cmp-below, cmp-first, cmp-plain, cmp-second}
use Rattle.tabled_decimal.proofs.order.DecimalOrd.cmp.Goals as goal

power : (digits : List ℕ) → 0 < 10 ^ length digits
power digits = one-le-pow _ _ (omega arith)

pub returns-in-true-false : goal.returns-in-true-false
returns-in-true-false c = let a = c.args.self.now in let b = c.args.other.now in
    sym (cmp-first a.negative b.negative (digits_value 10 (a.whole.now ++ a.fraction.now)) (digits_value 10 (b.whole.now ++ b.fraction.now)) (10 ^ length a.fraction.now) (10 ^ length b.fraction.now) (power b.fraction.now) (sym c.in-true-false.ensures) (sym c.in-true-false.ensures'))

pub returns-in-false-true : goal.returns-in-false-true
returns-in-false-true c = let a = c.args.self.now in let b = c.args.other.now in
    sym (cmp-second a.negative b.negative (digits_value 10 (a.whole.now ++ a.fraction.now)) (digits_value 10 (b.whole.now ++ b.fraction.now)) (10 ^ length a.fraction.now) (10 ^ length b.fraction.now) (power a.fraction.now) (sym c.in-false-true.ensures) (sym c.in-false-true.ensures'))

pub returns-in-false-false : goal.returns-in-false-false
returns-in-false-false c = let a = c.args.self.now in let b = c.args.other.now in
    c.cmp_unsigned-in-false-false.ensures ∙ sym (cmp-plain a.negative b.negative (digits_value 10 (a.whole.now ++ a.fraction.now)) (digits_value 10 (b.whole.now ++ b.fraction.now)) (10 ^ length a.fraction.now) (10 ^ length b.fraction.now) (sym c.in-false-false.ensures) (sym c.in-false-false.ensures'))

pub returns-in-true-true : goal.returns-in-true-true
returns-in-true-true c = let a = c.args.self.now in let b = c.args.other.now in
    c.cmp_unsigned.ensures ∙ sym (cmp-below a.negative b.negative (digits_value 10 (a.whole.now ++ a.fraction.now)) (digits_value 10 (b.whole.now ++ b.fraction.now)) (10 ^ length a.fraction.now) (10 ^ length b.fraction.now) (sym c.in-true-true.ensures) (sym c.in-true-true.ensures'))
