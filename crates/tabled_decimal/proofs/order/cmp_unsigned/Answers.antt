use Rattle.std.proofs.Common.{◌*◌, ◌^◌, length, nat_cmp}
use Rattle.std.specs.Str.Parse.{digits_value}
use Rattle.tabled_decimal.proofs.DigitValues.{parts-decide}
use Rattle.tabled_decimal.specs.Products.{then-first, then-rest}
use Rattle.tabled_decimal.proofs.order.cmp_unsigned.Goals as goal

pub returns-in-Equal : goal.returns-in-Equal
returns-in-Equal c = let a = c.args.a.now in let b = c.args.b.now in
    cc (parts-decide a.whole.now a.fraction.now b.whole.now b.fraction.now a.fraction_digits b.fraction_digits, then-rest c.cmp_whole.result c.cmp_fraction.result c.in-Equal.is)

pub returns-in_default : goal.returns-in_default
returns-in_default c = let a = c.args.a.now in let b = c.args.b.now in
    cc (parts-decide a.whole.now a.fraction.now b.whole.now b.fraction.now a.fraction_digits b.fraction_digits, then-first c.cmp_whole.result (nat_cmp (digits_value 10 a.fraction.now * 10 ^ length b.fraction.now) (digits_value 10 b.fraction.now * 10 ^ length a.fraction.now)) c.in_default.not-Equal)
