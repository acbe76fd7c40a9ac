use Rattle.tabled_grid.proofs.Merging.{fits_with}
use Rattle.tabled_grid.proofs.laws.a_rectangle_over_free_cells_fits.Goals as goal

pub returns : goal.returns
returns c = fits_with
