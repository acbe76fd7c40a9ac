use Rattle.std.proofs.Common.{arith, sym}
use Rattle.std.proofs.lemmas.Fmt.{decimal_digit, decimal_step}
use Rattle.tabled_held.proofs.SentBytes.{grows-as, grows-then}
use Rattle.tabled_held.proofs.held.Held.+write_number.Goals as goal

pub returns-then-number-lt10 : goal.returns-then-number-lt10
returns-then-number-lt10 t g c = grows-as (sym (decimal_digit c.args.number c.if-number-lt10.true)) c.push.ensures

pub returns : goal.returns
returns t g c = grows-as (sym (decimal_step c.args.number c.if-number-lt10.false (omega (arith, c.ranges.number.fits)))) (grows-then c.write_number.ensures c.push-2.ensures)
