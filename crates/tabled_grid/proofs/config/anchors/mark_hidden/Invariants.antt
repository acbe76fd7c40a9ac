use Rattle.tabled_grid.proofs.Common.{◌≡◌}
use Rattle.tabled_grid.proofs.MarkedAnchors.{marked_from}
use Rattle.tabled_grid.proofs.config.anchors.mark_hidden.Given as goal

abbrev pub invariant-loop-i : goal.invariant-loop-i
invariant-loop-i l = l.anchors ≡ marked_from l.fn.anchors l.i
