use Rattle.tabled_draw.proofs.Common.{Draws, alignment_in, each, get_or, ◌∷◌}
use Rattle.tabled_draw.specs.Markdown.{dashes}
use Rattle.tabled_draw.proofs.markdown.write_dashes_line.Given as goal

abbrev pub invariant-loop-j : goal.invariant-loop-j
invariant-loop-j g l = Draws g.W.Write.contents l.initial.pen l.pen (each l.j (λ j. 124 ∷ dashes (alignment_in l.alignments j) (get_or l.widths j 0)))
