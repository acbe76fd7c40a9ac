use Rattle.std.proofs.Common.{◌++◌}
use Rattle.std.specs.List.{flat_map}
use Rattle.std.specs.Prelude.{codes}
use Rattle.tabled_held.specs.Pens.{Sends}
use Rattle.tabled_html.specs.Elements.{cells_of}
use Rattle.tabled_html.specs.Ends.{AreEnds}
use Rattle.tabled_html_reading.specs.Bytes.{cell_bytes}
use Rattle.tabled_html.proofs.sheet.Sheet.write_row.Given as goal

abbrev pub invariant-loop-j : goal.invariant-loop-j
invariant-loop-j g l = record {
  sends : Sends g.W.Write.contents l.fn.pen l.pen (codes "<tr>" ++ flat_map cell_bytes (cells_of l.fn.self l.i l.j));
  ends : AreEnds l.fn.self l.i l.j l.ends;
}
