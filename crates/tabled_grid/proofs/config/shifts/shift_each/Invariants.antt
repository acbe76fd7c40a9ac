use Rattle.tabled_grid.proofs.Common.{◌≡◌}
use Rattle.tabled_grid.proofs.Shifts.{first_changed, shifted_or_kept}
use Rattle.tabled_grid.proofs.config.shifts.shift_each.Given as goal

abbrev pub invariant-loop-k : goal.invariant-loop-k
invariant-loop-k l = l.anchors ≡ first_changed (shifted_or_kept l.axis l.from) l.k l.fn.anchors
