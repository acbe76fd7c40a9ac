use Rattle.tabled_settings.proofs.Common.{◌≡◌, ◌≤◌, is_marked, left_over, length}
use Rattle.tabled_settings.proofs.lines.count_kept.Given as goal

abbrev pub invariant-loop-i : goal.invariant-loop-i
invariant-loop-i l = record { many : l.kept ≡ length (left_over (is_marked l.gone) l.i); few : l.kept ≤ l.i }
