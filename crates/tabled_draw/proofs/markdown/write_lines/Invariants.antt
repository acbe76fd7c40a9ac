use Rattle.tabled_draw.proofs.Common.{Draws, each, with_newlines}
use Rattle.tabled_draw.specs.Markdown.{lines_at, rows_of_characters}
use Rattle.tabled_draw.proofs.markdown.write_lines.Given as goal

abbrev pub invariant-loop-i : goal.invariant-loop-i
invariant-loop-i g l = Draws g.W.Write.contents l.initial.pen l.pen (with_newlines (each l.i (lines_at l.alignments l.widths (rows_of_characters l.rows))))
