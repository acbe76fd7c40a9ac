use Rattle.tabled_grid.proofs.SamePlaces.{same_rows_swapped}
use Rattle.tabled_grid.proofs.laws.equal_rows_swapped_change_nothing.Goals as goal

pub returns : goal.returns
returns g c = same_rows_swapped (g.R.GridStore.grid c.args._records.now) c.args._i
