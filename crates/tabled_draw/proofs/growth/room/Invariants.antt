use Rattle.tabled_draw.proofs.Common.{length, line_size, start_of, ◌+◌, ◌≡◌}
use Rattle.tabled_draw.proofs.growth.room.Given as goal

abbrev pub invariant-loop-k : goal.invariant-loop-k
invariant-loop-k l = l.room + start_of l.fn.axis (line_size l.fn.lines (length l.fn.sizes)) l.fn.sizes l.at ≡ start_of l.fn.axis (line_size l.fn.lines (length l.fn.sizes)) l.fn.sizes l.k
