use Rattle.tabled_held.specs.Pens.{Sends}
use Rattle.tabled_json.proofs.Common.{◌-◌, ◌∷◌, [], map, take}
use Rattle.tabled_json.specs.Writing.{object_text, parted, records_of}
use Rattle.tabled_json.proofs.writing.write_array.Given as goal

abbrev pub invariant-loop-i : goal.invariant-loop-i
invariant-loop-i g l =
    Sends g.W.Write.contents l.fn.pen l.pen (91 ∷ parted (44 ∷ 10 ∷ []) (map (object_text l.values) (take (l.i - 1) (records_of (g.R.Rows.texts l.rows)))))
