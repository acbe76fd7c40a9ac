use Rattle.tabled_grid.proofs.Fitting.{fits-kept, kept-fits}
use Rattle.tabled_carry.proofs.laws.fitting_rectangles_are_the_free_ones.Goals as goal

pub returns : goal.returns
returns c = λ m rows columns e. (kept-fits rows columns m e, λ both. fits-kept rows columns m e both.0 both.1)
