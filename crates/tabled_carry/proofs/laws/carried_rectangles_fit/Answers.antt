use Rattle.tabled_carry.proofs.CarriedFits.{carried-fits}
use Rattle.tabled_carry.proofs.laws.carried_rectangles_fit.Goals as goal

pub returns : goal.returns
returns c = λ places rows columns m. carried-fits places rows columns m
