use Rattle.tabled_grid.proofs.Common.{◌-◌, ◌≡◌, ◌≤◌, length, unless_held}
use Rattle.tabled_grid.proofs.PassedAnchors.{ChangedTo}
use Rattle.tabled_grid.proofs.config.anchors.hide.Given as goal

abbrev pub invariant-loop-k : goal.invariant-loop-k
invariant-loop-k l = record {
  from : l.first ≤ l.k;
  long : length l.anchors ≡ length l.fn.anchors;
  changed : ChangedTo (unless_held l.by) l.fn.anchors l.first l.anchors l.k;
}

abbrev pub decreases-loop-k : goal.decreases-loop-k
decreases-loop-k l = length l.anchors - l.k
