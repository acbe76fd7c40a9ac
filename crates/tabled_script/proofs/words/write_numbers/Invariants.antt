use Rattle.tabled_held.specs.Pens.{Sends}
use Rattle.tabled_script.proofs.Common.{◌++◌, ◌∷◌, decimal, escaped, flat_map, take}
use Rattle.tabled_script.proofs.words.write_numbers.Given as goal

abbrev pub invariant-loop-number : goal.invariant-loop-number
invariant-loop-number g l = Sends g.W.Write.contents l.fn.pen l.pen (l.name ++ flat_map (λ n. 9 ∷ escaped (decimal n)) (take l.number-index l.numbers))
