use Rattle.tabled_held.specs.Pens.{Sends}
use Rattle.tabled_language.specs.Output.{row_line}
use Rattle.tabled_script.proofs.Common.{AllByRecursion, IsUtf8, flat_map, map, take}
use Rattle.tabled_script.proofs.script_form.write_rows.Given as goal

abbrev pub invariant-loop-row : goal.invariant-loop-row
invariant-loop-row g l = record {
  sends : Sends g.W.Write.contents l.fn.pen l.pen (flat_map (λ row. row_line (map g.T.CellText.text_of row.items)) (take l.row-index l.rows));
  texts : AllByRecursion (λ row. AllByRecursion IsUtf8 (map g.T.CellText.text_of row.items)) (take l.row-index l.rows);
}
