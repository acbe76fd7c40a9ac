use Rattle.tabled_csv.proofs.Common.{◌≡◌, holds_special, length}
use Rattle.tabled_csv.proofs.quoting.holds_special.Given as goal

abbrev pub invariant-loop-rest : goal.invariant-loop-rest
invariant-loop-rest l = holds_special l.separator l.rest ≡ holds_special l.separator l.text

abbrev pub decreases-loop-rest : goal.decreases-loop-rest
decreases-loop-rest l = length l.rest
