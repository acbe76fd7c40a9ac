use Rattle.tabled_language.proofs.Common.{◌-◌, ◌<◌, ◌≡◌, ◌≤◌, false, length, all_fit, take, true}
use Rattle.tabled_language.proofs.spans.first_misfit.Given as goal

abbrev pub invariant-loop-failing : goal.invariant-loop-failing
invariant-loop-failing l = (0 < l.step) × (l.fitting < l.failing) × (l.failing ≤ length l.anchors) × (all_fit l.rows l.columns (take l.fitting l.anchors) ≡ true) × (all_fit l.rows l.columns (take l.failing l.anchors) ≡ false)

abbrev pub decreases-loop-failing : goal.decreases-loop-failing
decreases-loop-failing l = l.failing - l.fitting
