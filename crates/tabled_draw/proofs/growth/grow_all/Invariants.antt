use Rattle.tabled_draw.proofs.Common.{count_along, fold, grown_for, length, map_grid, take, ◌≡◌}
use Rattle.tabled_draw.proofs.growth.grow_all.Given as goal

abbrev pub invariant-loop-k : goal.invariant-loop-k
invariant-loop-k g l = record {
  long : length l.sizes.items ≡ count_along l.axis (g.R.GridStore.grid l.records);
  grown : l.sizes.items ≡ fold (grown_for l.axis l.style (map_grid g.R.Cell.CellText.text_of (g.R.GridStore.grid l.records))) l.initial.sizes.items (take l.k l.order);
}
