use Rattle.tabled_carry.proofs.CarriedFits.{carried-stays}
use Rattle.tabled_carry.proofs.laws.merged_cells_stay_with_their_cells.Goals as goal

pub returns : goal.returns
returns c = λ places rows columns m keeps. carried-stays places rows columns m keeps
