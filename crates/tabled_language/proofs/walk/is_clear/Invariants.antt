use Rattle.tabled_language.proofs.Common.{DropsEnded, btree_map_len}
use Rattle.tabled_language.proofs.walk.is_clear.Given as goal

abbrev pub invariant-loop-near : goal.invariant-loop-near
invariant-loop-near l = DropsEnded l.anchor.first.row l.fn.reaching l.reaching

abbrev pub decreases-loop-near : goal.decreases-loop-near
decreases-loop-near l = btree_map_len l.reaching
