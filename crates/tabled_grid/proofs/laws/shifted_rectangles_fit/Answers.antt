use Rattle.tabled_grid.proofs.ShiftedFits.{fits_below, fits_beside, line_is_free}
use Rattle.tabled_grid.proofs.laws.shifted_rectangles_fit.Goals as goal

pub returns-clause-rows : goal.returns-clause-rows
returns-clause-rows c = fits_below

pub returns-clause-columns : goal.returns-clause-columns
returns-clause-columns c = fits_beside

pub returns-clause-free : goal.returns-clause-free
returns-clause-free c axis m line a q size = line_is_free axis line m a q size
