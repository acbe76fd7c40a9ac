use Rattle.tabled_carry.proofs.InPlace.{Underway}
use Rattle.tabled_carry.proofs.fitting_spans.carry.Given as goal

abbrev pub invariant-loop-index : goal.invariant-loop-index
invariant-loop-index g l = Underway (g.M.Moves.places l.fn.moves) l.fn.anchors.items l.anchors.items l.count l.index
