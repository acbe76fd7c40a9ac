use Rattle.tabled_held.specs.Pens.{Sends}
use Rattle.tabled_script.proofs.Common.{◌++◌, ◌∷◌, AllByRecursion, IsUtf8, codes, escaped, flat_map, take}
use Rattle.tabled_script.proofs.script_form.write_row.Given as goal

abbrev pub invariant-loop-text : goal.invariant-loop-text
invariant-loop-text g l = record {
  sends : Sends g.W.Write.contents l.fn.pen l.pen (codes "row" ++ flat_map (λ t. 9 ∷ escaped (g.T.CellText.text_of t)) (take l.text-index l.texts));
  texts : AllByRecursion (λ t. IsUtf8 (g.T.CellText.text_of t)) (take l.text-index l.texts);
}
