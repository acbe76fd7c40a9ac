use Rattle.tabled_draw.proofs.Sizes.{no-larger}
use Rattle.tabled_draw.proofs.Fitting.{holds}
use Rattle.tabled_draw.proofs.laws.rows_and_columns_are_no_larger_than_asked.Goals as goal

pub returns : goal.returns
returns c = holds _ no-larger
