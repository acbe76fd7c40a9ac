use Rattle.tabled_held.specs.Pens.{Sends}
use Rattle.tabled_json.proofs.Common.{◌-◌, take}
use Rattle.tabled_json.specs.Writing.{lines_text, records_of}
use Rattle.tabled_json.proofs.writing.write_lines.Given as goal

abbrev pub invariant-loop-i : goal.invariant-loop-i
invariant-loop-i g l = Sends g.W.Write.contents l.fn.pen l.pen (lines_text l.values (take (l.i - 1) (records_of (g.R.Rows.texts l.rows))))
