use Rattle.tabled_language.proofs.Common.{◌≡◌, count_by, eqb, take}
use Rattle.tabled_language.proofs.parts.count_few.Given as goal

abbrev pub invariant-loop-byte : goal.invariant-loop-byte
invariant-loop-byte l = l.places ≡ count_by (λ b. eqb b l.at) (take l.byte-index l.bytes)
