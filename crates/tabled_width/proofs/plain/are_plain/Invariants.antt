use Rattle.std.proofs.Common.{◌<◌, ◌≡◌, ◌↔◌, get_or, true, ℕ}
use Rattle.tabled_width.specs.Plain.{IsPlain}
use Rattle.tabled_width.proofs.plain.are_plain.Given as goal

abbrev pub invariant-loop-byte : goal.invariant-loop-byte
invariant-loop-byte l = (l.plain ≡ true) ↔ ((k : ℕ) (d : ℕ) → k < l.byte-index → IsPlain (get_or l.bytes k d))
