use Rattle.tabled_grid.proofs.SamePlaces.{same_cells_swapped}
use Rattle.tabled_grid.proofs.laws.equal_cells_swapped_change_nothing.Goals as goal

pub returns : goal.returns
returns g c = same_cells_swapped (g.R.GridStore.grid c.args._records.now) c.args._pos
