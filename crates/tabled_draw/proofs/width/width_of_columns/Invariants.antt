use Rattle.tabled_draw.proofs.Common.{Columns, length, line_size, start_of, ◌+◌, ◌≡◌}
use Rattle.tabled_draw.proofs.width.width_of_columns.Given as goal

abbrev pub invariant-loop-k : goal.invariant-loop-k
invariant-loop-k l = let n = length l.widths in l.width ≡ start_of Columns (line_size l.fn.lines n) l.widths l.k + line_size l.fn.lines n n
