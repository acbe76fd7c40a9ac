use Rattle.tabled_draw.proofs.Common.{None, begins_at, get_or, place, true, ℕ, ◌+◌, ◌<◌, ◌≡◌}
use Rattle.tabled_draw.proofs.owners.begin_here.Given as goal

abbrev pub invariant-loop-j : goal.invariant-loop-j
invariant-loop-j l = record {
  begun : (k : ℕ) → k < l.j → begins_at (get_or l.owners (k + 1) None) (place l.i k) ≡ true;
}
