use Rattle.tabled_settings.proofs.PiecePlaces.{split_once}
use Rattle.tabled_settings.proofs.laws.split_takes_each_cell_once.Goals as goal

pub returns : goal.returns
returns c = record { once = λ g retained p h k. split_once c.args._split g p retained h k }
