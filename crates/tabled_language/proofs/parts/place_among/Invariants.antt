use Rattle.tabled_language.proofs.Common.{◌<◌, ◌≡◌, eqb, false, get_or, ℕ}
use Rattle.tabled_language.proofs.parts.place_among.Given as goal

abbrev pub invariant-loop-i : goal.invariant-loop-i
invariant-loop-i l = (k : ℕ) → k < l.i → eqb (get_or l.bytes k 0) l.fn.at ≡ false
