use Rattle.std.specs.List.{zip}
use Rattle.tabled_held.specs.Pens.{Sends}
use Rattle.tabled_json.proofs.Common.{◌∷◌, [], map, take}
use Rattle.tabled_texts.specs.Texts.{row_at}
use Rattle.tabled_json.specs.Writing.{member_text, parted}
use Rattle.tabled_json.proofs.writing.write_object.Given as goal

abbrev pub invariant-loop-j : goal.invariant-loop-j
invariant-loop-j g l =
    Sends g.W.Write.contents l.fn.pen l.pen (123 ∷ parted (44 ∷ []) (map (member_text l.values) (take l.j (zip (row_at (g.R.Rows.texts l.rows) 0) (row_at (g.R.Rows.texts l.rows) l.i)))))
