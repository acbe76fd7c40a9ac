use Rattle.tabled_held.specs.Pens.{Sends}
use Rattle.tabled_script.proofs.Common.{◌∷◌, escaped, take}
use Rattle.tabled_script.proofs.words.write_each.Given as goal

abbrev pub invariant-loop-byte : goal.invariant-loop-byte
invariant-loop-byte g l = Sends g.W.Write.contents l.fn.pen l.pen (9 ∷ escaped (take l.byte-index l.bytes))
