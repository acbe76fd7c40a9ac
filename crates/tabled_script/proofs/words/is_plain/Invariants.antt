use Rattle.tabled_script.proofs.Common.{◌≡◌, escaped, length}
use Rattle.tabled_script.proofs.words.is_plain.Given as goal

abbrev pub invariant-loop-rest : goal.invariant-loop-rest
invariant-loop-rest l = escaped l.rest ≡ l.rest → escaped l.text ≡ l.text

abbrev pub decreases-loop-rest : goal.decreases-loop-rest
decreases-loop-rest l = length l.rest
