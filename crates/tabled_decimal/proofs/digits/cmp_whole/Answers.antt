use Rattle.std.proofs.Common.{◌-◌, drop, length, nat_cmp}
use Rattle.std.specs.Cmp.Lexicographic.{slice_cmp}
use Rattle.tabled_decimal.proofs.DigitValues.{whole-cut}
use Rattle.tabled_decimal.specs.Products.{then-first, then-rest}
use Rattle.tabled_decimal.proofs.digits.cmp_whole.Goals as goal

pub returns-in-Equal : goal.returns-in-Equal
returns-in-Equal c = cc (whole-cut c.args.a.now c.args.b.now c.min-common.result c.min-common.ensures c.requires.left c.requires.right, then-rest c.cmp.result c.cmp-in-Equal.result c.in-Equal.is)

pub returns-in_default : goal.returns-in_default
returns-in_default c = cc (whole-cut c.args.a.now c.args.b.now c.min-common.result c.min-common.ensures c.requires.left c.requires.right, then-first c.cmp.result (slice_cmp nat_cmp (drop (length c.args.a.now - c.min-common.result) c.args.a.now) (drop (length c.args.b.now - c.min-common.result) c.args.b.now)) c.in_default.not-Equal)
