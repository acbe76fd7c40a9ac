use Rattle.tabled_grid.proofs.Common.{area}
use Rattle.tabled_grid.proofs.CoverCounts.{no-counts}
use Rattle.tabled_grid.proofs.config.cover_map.count_few.Goals as goal

pub count_each-requires-clause-none : goal.count_each-requires-clause-none
count_each-requires-clause-none c = no-counts (area c.args.block.size) c.requires.few
