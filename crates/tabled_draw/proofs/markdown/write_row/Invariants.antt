use Rattle.tabled_draw.proofs.Common.{Draws, [], aligned, alignment_in, each, get_or, map, ◌∷◌}
use Rattle.tabled_draw.specs.Markdown.{characters}
use Rattle.tabled_draw.proofs.markdown.write_row.Given as goal

abbrev pub invariant-loop-j : goal.invariant-loop-j
invariant-loop-j g l = Draws g.W.Write.contents l.initial.pen l.pen (each l.j (λ j. 124 ∷ aligned (alignment_in l.alignments j) (get_or l.widths j 0) (get_or (map characters l.row) j [])))
