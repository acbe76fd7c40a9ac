use Rattle.tabled_settings.proofs.TurnedTwice.{rotated_once}
use Rattle.tabled_settings.proofs.laws.rotate_takes_each_cell_once.Goals as goal

pub returns : goal.returns
returns c = record { once = λ rows columns p. rotated_once c.args._rotate.now rows columns p }
