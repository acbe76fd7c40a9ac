use Rattle.std.specs.Prelude.{◌-◌}
use Rattle.tabled_draw.proofs.Common.{◌<◌, ◌≡◌, ◌≤◌, ◌⊎◌, false, true, ℕ}
use Rattle.tabled_script.specs.Limits.{come_to, raised_to}
use Rattle.tabled_script.proofs.limits.level.Given as goal

abbrev pub decreases-loop-low : goal.decreases-loop-low
decreases-loop-low l = l.high - l.low

abbrev pub invariant-loop-low : goal.invariant-loop-low
invariant-loop-low l = record {
  order : l.low ≤ l.high;
  within : l.high ≤ l.width;
  low : (l.low ≡ 0) ⊎ (come_to l.width l.fn.lines (raised_to l.low l.least l.most) ≡ true);
  above : (j : ℕ) → l.high < j → j ≤ l.width → come_to l.width l.fn.lines (raised_to j l.least l.most) ≡ false;
}
