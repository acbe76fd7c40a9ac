use Rattle.std.proofs.Common.{◌↔◌, length}
use Rattle.tabled_width.specs.Plain.{ArePlain}
use Rattle.tabled_width.proofs.plain.is_plain.Given as goal

abbrev pub invariant-loop-rest : goal.invariant-loop-rest
invariant-loop-rest l = ArePlain l.rest ↔ ArePlain l.text

abbrev pub decreases-loop-rest : goal.decreases-loop-rest
decreases-loop-rest l = length l.rest
