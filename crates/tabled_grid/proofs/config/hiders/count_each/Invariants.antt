use Rattle.tabled_grid.proofs.Common.{◌≡◌, area, hider_counts, length, map, take}
use Rattle.tabled_grid.proofs.config.hiders.count_each.Given as goal

abbrev pub invariant-loop-k : goal.invariant-loop-k
invariant-loop-k g l = record {
  size : length l.hiders ≡ area l.block.size;
  counted : map g.N.Count.value l.hiders ≡ hider_counts (take l.k l.anchors) l.block;
}
