use Rattle.tabled_settings.proofs.SwapsFound.{FoundSoFar}
use Rattle.tabled_settings.proofs.arranged.swaps_to.Given as goal

abbrev pub invariant-loop-k : goal.invariant-loop-k
invariant-loop-k l = FoundSoFar l.indexes l.swaps.items l.lines.items l.places.items l.k l.count
