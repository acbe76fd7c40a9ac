use Rattle.std.proofs.Common.{drop, nat_lt}
use Rattle.std.specs.Ordering.{bool_cmp}
use Rattle.std.specs.Str.Parse.{digits_value}
use Rattle.tabled_decimal.proofs.DigitValues.{fraction-cut}
use Rattle.tabled_decimal.specs.Products.{then-first, then-rest}
use Rattle.tabled_decimal.proofs.digits.cmp_fraction.Goals as goal

pub returns-in-Equal : goal.returns-in-Equal
returns-in-Equal c = cc (fraction-cut c.args.a.now c.args.b.now c.min-common.result c.min-common.ensures c.requires.left c.requires.right, then-rest c.cmp.result c.cmp-in-Equal.result c.in-Equal.is)

pub returns-in_default : goal.returns-in_default
returns-in_default c = cc (fraction-cut c.args.a.now c.args.b.now c.min-common.result c.min-common.ensures c.requires.left c.requires.right, then-first c.cmp.result (bool_cmp (nat_lt 0 (digits_value 10 (drop c.min-common.result c.args.a.now))) (nat_lt 0 (digits_value 10 (drop c.min-common.result c.args.b.now)))) c.in_default.not-Equal)
