use Rattle.tabled_draw.proofs.Common.{Draws, corner_if, each, is_drawn, unmerged_arms, unmerged_stretch, ◌<◌, ◌≡◌}
use Rattle.tabled_draw.proofs.lines.write_unmerged_line.Given as goal

abbrev pub invariant-loop-j : goal.invariant-loop-j
invariant-loop-j g l = record {
  mark : l.j < l.columns → l.mark ≡ corner_if l.sheet.look.style (unmerged_arms l.sheet.rows l.columns l.i l.j);
  is_drawn : l.j < l.columns → l.drawn ≡ is_drawn l.drawn_columns l.columns l.j;
  drawn : Draws g.W.Write.contents l.initial.pen l.pen (each l.j (unmerged_stretch l.sheet.look.style l.sheet.rows l.columns l.i l.sheet.edges.now));
}
