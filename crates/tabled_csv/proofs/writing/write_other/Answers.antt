use Rattle.tabled_csv.proofs.Common.{◌∙◌, sym}
use Rattle.tabled_held.proofs.Pens.{sends-then}
use Rattle.tabled_csv.proofs.writing.write_other.Goals as goal

pub returns-then-holds_special : goal.returns-then-holds_special
returns-then-holds_special g c = rw (sym c.holds_special.ensures ∙ c.if-holds_special.true) (sends-then c.send_byte.ensures c.write_quoted.ensures)

pub returns-else-holds_special : goal.returns-else-holds_special
returns-else-holds_special g c = rw (sym c.holds_special.ensures ∙ c.if-holds_special.false) c.send_behind.ensures
