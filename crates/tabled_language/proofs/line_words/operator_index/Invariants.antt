use Rattle.tabled_language.proofs.Common.{◌<◌, ◌≡◌, false, get_or, ℕ}
use Rattle.tabled_language.specs.LineNames.{is_operator}
use Rattle.tabled_language.proofs.line_words.operator_index.Given as goal

abbrev pub invariant-loop-index : goal.invariant-loop-index
invariant-loop-index l = (k : ℕ) → k < l.index → is_operator (get_or l.bytes k 0) ≡ false
