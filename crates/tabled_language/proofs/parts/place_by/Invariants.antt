use Rattle.tabled_language.proofs.Common.{◌+◌, ◌-◌, ◌≡◌, ◌≤◌, drop, eqb, length, position_or_len}
use Rattle.tabled_language.proofs.parts.place_by.Given as goal

abbrev pub invariant-loop-passed : goal.invariant-loop-passed
invariant-loop-passed l = record {
  place : position_or_len (λ b. eqb b l.at) l.bytes ≡ l.passed + position_or_len (λ b. eqb b l.at) (drop l.passed l.bytes);
  within : l.passed ≤ length l.bytes;
}

abbrev pub decreases-loop-passed : goal.decreases-loop-passed
decreases-loop-passed l = length l.bytes - l.passed
