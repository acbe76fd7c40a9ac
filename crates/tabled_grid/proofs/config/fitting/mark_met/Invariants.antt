use Rattle.tabled_grid.proofs.Common.{◌-◌, length}
use Rattle.tabled_grid.proofs.MetAnchors.{Walked}
use Rattle.tabled_grid.proofs.config.fitting.mark_met.Given as goal

abbrev pub invariant-loop-k : goal.invariant-loop-k
invariant-loop-k l = Walked l.from l.anchors l.fn.marks l.k l.marks l.alone

abbrev pub decreases-loop-k : goal.decreases-loop-k
decreases-loop-k l = length l.anchors - l.k
