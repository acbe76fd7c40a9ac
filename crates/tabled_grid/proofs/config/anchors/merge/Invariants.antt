use Rattle.tabled_grid.proofs.Common.{◌-◌, ◌≤◌, drop, length}
use Rattle.tabled_grid.proofs.MergedAnchors.{IsMerged}
use Rattle.tabled_grid.proofs.config.anchors.merge.Given as goal

abbrev pub invariant-loop-next : goal.invariant-loop-next
invariant-loop-next l = record {
  within : l.next ≤ length l.anchors;
  merged : IsMerged l.merged.items (drop l.next l.anchors) (drop l.k l.sizes) l.fn.anchors l.fn.sizes;
}

abbrev pub decreases-loop-next : goal.decreases-loop-next
decreases-loop-next l = length l.anchors - l.next

abbrev pub invariant-loop-k : goal.invariant-loop-k
invariant-loop-k l = record {
  within : l.next ≤ length l.anchors;
  merged : IsMerged l.merged.items (drop l.next l.anchors) (drop l.k l.sizes) l.fn.anchors l.fn.sizes;
}
