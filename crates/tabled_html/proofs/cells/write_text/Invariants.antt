use Rattle.std.proofs.Common.{◌≤◌, take}
use Rattle.tabled_held.specs.Pens.{Sends}
use Rattle.tabled_html_reading.proofs.Bytes.{IsQuiet}
use Rattle.tabled_html_reading.specs.Escaping.{escaped}
use Rattle.tabled_html.proofs.cells.write_text.Given as goal

abbrev pub invariant-loop-i : goal.invariant-loop-i
invariant-loop-i g l = record {
  sends : Sends g.W.Write.contents l.fn.pen l.pen (escaped (take l.written l.text));
  behind : l.written ≤ l.i;
  quiet : IsQuiet l.text l.written l.i;
}
