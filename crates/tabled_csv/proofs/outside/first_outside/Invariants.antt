use Rattle.tabled_csv.proofs.Common.{◌≡◌, ◌≤◌, ◌-◌, false, is_outside, length, list_any, take}
use Rattle.tabled_csv.proofs.outside.first_outside.Given as goal

abbrev pub invariant-loop-passed : goal.invariant-loop-passed
invariant-loop-passed l = record {
  clean : list_any (is_outside l.separator) (take l.passed l.bytes) ≡ false;
  within : l.passed ≤ length l.bytes;
}

abbrev pub decreases-loop-passed : goal.decreases-loop-passed
decreases-loop-passed l = length l.bytes - l.passed
