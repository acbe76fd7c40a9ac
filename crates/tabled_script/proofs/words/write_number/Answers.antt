use Rattle.std.proofs.lemmas.Fmt.{decimal_digit}
use Rattle.tabled_held.proofs.Pens.{sends-as, sends-then}
use Rattle.tabled_script.proofs.Common.{◌∷◌, ap, sym}
use Rattle.tabled_script.proofs.words.write_number.Goals as goal

pub returns-then-number-lt10 : goal.returns-then-number-lt10
returns-then-number-lt10 g c = sends-as (ap (λ ds. 9 ∷ ds) (sym (decimal_digit c.args.number c.if-number-lt10.true))) c.send_behind.ensures

pub returns : goal.returns
returns g c = sends-then c.send_byte.ensures c.send_number.ensures
