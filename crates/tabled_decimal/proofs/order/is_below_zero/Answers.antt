use Rattle.std.proofs.Common.{◌≡◌, ◌&&◌, ◌||◌, Bool, false, nat_lt, refl, sym, true, ◌∙◌}
use Rattle.std.specs.Str.Parse.{digits_value}
use Rattle.tabled_decimal.proofs.DigitValues.{above-append}
use Rattle.tabled_decimal.proofs.order.is_below_zero.Goals as goal

sign-and : (negative whole first rest : Bool) → negative ≡ true → whole ≡ (first || rest) → (first || rest) ≡ (negative && whole)
sign-and negative whole first rest e f = rw (e, f) refl

true-first : (result first rest : Bool) → result ≡ true → result ≡ first → result ≡ (first || rest)
true-first result first rest e f = let g : first ≡ true = sym f ∙ e in rw (e, g) refl

false-first : (first rest result test : Bool) → test ≡ false → test ≡ first → result ≡ rest → result ≡ (first || rest)
false-first first rest result test e f h = let g : first ≡ false = sym f ∙ e in rw (g, h) refl

pub returns-then-is_above_zero : goal.returns-then-is_above_zero
returns-then-is_above_zero c = let n = c.args.number.now in
    true-first _ (nat_lt 0 (digits_value 10 n.whole.now)) (nat_lt 0 (digits_value 10 n.fraction.now)) c.if-is_above_zero.true c.is_above_zero.ensures
    ∙ sign-and n.negative _ (nat_lt 0 (digits_value 10 n.whole.now)) (nat_lt 0 (digits_value 10 n.fraction.now)) c.if-number.true (above-append n.whole.now n.fraction.now)

pub returns-else-is_above_zero : goal.returns-else-is_above_zero
returns-else-is_above_zero c = let n = c.args.number.now in
    false-first (nat_lt 0 (digits_value 10 n.whole.now)) (nat_lt 0 (digits_value 10 n.fraction.now)) _ c.is_above_zero.result c.if-is_above_zero.false c.is_above_zero.ensures c.is_above_zero-else-is_above_zero.ensures
    ∙ sign-and n.negative _ (nat_lt 0 (digits_value 10 n.whole.now)) (nat_lt 0 (digits_value 10 n.fraction.now)) c.if-number.true (above-append n.whole.now n.fraction.now)
