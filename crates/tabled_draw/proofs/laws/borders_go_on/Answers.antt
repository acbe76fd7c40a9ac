use Rattle.tabled_draw.proofs.LawBorders.{are-met}
use Rattle.tabled_draw.proofs.Fitting.{holds}
use Rattle.tabled_draw.proofs.laws.borders_go_on.Goals as goal

pub returns : goal.returns
returns c = holds _ are-met
