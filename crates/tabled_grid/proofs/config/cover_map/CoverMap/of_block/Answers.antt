use Rattle.tabled_grid.proofs.Common.{AreSorted, subst, sym}
use Rattle.tabled_grid.proofs.SortedEntries.{rectangles_sorted}
use Rattle.tabled_grid.proofs.config.cover_map.CoverMap.of_block.Goals as goal

pub of-requires-clause-sorted : goal.of-requires-clause-sorted
of-requires-clause-sorted c = subst AreSorted (sym c.rectangles.ensures.rectangles) (rectangles_sorted c.args.cfg.now)
