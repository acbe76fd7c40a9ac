use Rattle.tabled_draw.proofs.Common.{Draws, replicate}
use Rattle.tabled_draw.proofs.markdown.write_level_dashes.Given as goal

abbrev pub invariant-loop : goal.invariant-loop
invariant-loop g l = Draws g.W.Write.contents l.initial.pen l.pen (replicate l.counter 45)
