use Rattle.tabled_spans.proofs.Common.{StandBelow}
use Rattle.tabled_spans.proofs.merge.anchored.up_to_row.Given as goal

abbrev pub invariant-loop-many : goal.invariant-loop-many
invariant-loop-many l = StandBelow l.cfg l.row l.many

abbrev pub decreases-loop-many : goal.decreases-loop-many
decreases-loop-many l = l.many
