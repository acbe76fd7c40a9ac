use Rattle.tabled_draw.proofs.Common.{cond, get_or, is_in_range, length, ℕ, ◌+◌, ◌-◌, ◌≡◌}
use Rattle.tabled_draw.proofs.growth.grow.Given as goal

abbrev pub invariant-loop-k : goal.invariant-loop-k
invariant-loop-k l = record {
  long : length l.sizes.items ≡ length l.initial.sizes.items;
  each : (i : ℕ) → get_or l.sizes.items i 0 ≡ get_or l.initial.sizes.items i 0 + cond (is_in_range i l.at (l.k - l.at)) l.each 0;
}
