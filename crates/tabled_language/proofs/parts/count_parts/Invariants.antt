use Rattle.tabled_language.proofs.Common.{◌+◌, ◌≡◌, count_by, eqb, length}
use Rattle.tabled_language.proofs.parts.count_parts.Given as goal

abbrev pub invariant-loop-rest : goal.invariant-loop-rest
invariant-loop-rest l = l.parts + count_by (λ b. eqb b l.at) l.rest ≡ count_by (λ b. eqb b l.at) l.bytes + 1

abbrev pub decreases-loop-rest : goal.decreases-loop-rest
decreases-loop-rest l = length l.rest
