use Rattle.tabled_script.proofs.Common.{◌≡◌, drop, escaped}
use Rattle.tabled_script.proofs.words.is_plain_part.Given as goal

abbrev pub invariant-loop-byte : goal.invariant-loop-byte
invariant-loop-byte l = escaped (drop l.byte-index l.text) ≡ drop l.byte-index l.text → escaped l.text ≡ l.text
