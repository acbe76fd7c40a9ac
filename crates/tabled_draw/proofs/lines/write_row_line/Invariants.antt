use Rattle.tabled_draw.proofs.Common.{Draws, None, [], bytes_in, each, get_or, is_drawn, left_of, length, stretch, true, ◌+◌, ◌<◌, ◌≡◌}
use Rattle.tabled_draw.proofs.Each.{Changed}
use Rattle.tabled_draw.proofs.lines.write_row_line.Given as goal

abbrev pub invariant-loop-j : goal.invariant-loop-j
invariant-loop-j g l = record {
  long : length l.rests.items ≡ length l.initial.rests.items;
  rests : Changed (λ k. left_of k (get_or l.owners (k + 1) None) (get_or l.owners (k + 1) None) (get_or (bytes_in l.initial.rests.items) k [])) (bytes_in l.initial.rests.items) (bytes_in l.rests.items) l.j;
  is_drawn : l.j < l.columns → l.drawn ≡ is_drawn l.drawn_columns l.columns l.j;
  drawn : Draws g.W.Write.contents l.initial.pen l.pen (each l.j (stretch l.sheet true l.owners l.owners l.columns (bytes_in l.initial.rests.items)));
}
