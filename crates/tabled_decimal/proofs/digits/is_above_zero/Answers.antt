use Rattle.std.proofs.Common.{◌<◌, ℕ, ap, drop_of_length-le, nat_lt, subst, sym, ◌∙◌}
use Rattle.std.specs.Str.Parse.{digits_value}
use Rattle.tabled_decimal.proofs.DigitValues.{front-above, front-zero}
use Rattle.tabled_decimal.specs.Products.{above}
use Rattle.tabled_decimal.proofs.digits.is_above_zero.Goals as goal

pub returns-then-digit-ne48 : goal.returns-then-digit-ne48
returns-then-digit-ne48 c = sym (above _ (subst (λ (n : ℕ). 0 < n) (sym c.loop-digit.invariant) (front-above c.args.digits.now c.loop-digit.digit-index c.loop-digit-test.true c.if-digit-ne48.true)))

pub loop-digit-preserved : goal.loop-digit-preserved
loop-digit-preserved c = c.loop-digit.invariant ∙ front-zero c.args.digits.now c.loop-digit.digit-index c.loop-digit-test.true c.if-digit-ne48.false

pub returns : goal.returns
returns c = sym (ap (λ (n : ℕ). nat_lt 0 n) (c.loop-digit.invariant ∙ ap (digits_value 10) (drop_of_length-le c.args.digits.now c.loop-digit-test.false)))
