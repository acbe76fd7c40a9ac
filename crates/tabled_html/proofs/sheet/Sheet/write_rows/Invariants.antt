use Rattle.std.proofs.Common.{◌-◌}
use Rattle.std.specs.List.{flat_map}
use Rattle.tabled_held.specs.Pens.{Sends}
use Rattle.tabled_html.specs.Elements.{rows_of}
use Rattle.tabled_html.specs.Ends.{AreEnds}
use Rattle.tabled_html_reading.specs.Bytes.{row_bytes}
use Rattle.tabled_html.proofs.sheet.Sheet.write_rows.Given as goal

abbrev pub invariant-loop-i : goal.invariant-loop-i
invariant-loop-i g l = record {
  sends : Sends g.W.Write.contents l.fn.pen l.pen (flat_map row_bytes (rows_of l.fn.self l.first (l.i - l.first)));
  ends : AreEnds l.fn.self l.i 0 l.ends;
}
