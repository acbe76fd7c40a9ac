use Rattle.tabled_settings.proofs.TurnedTwice.{reversed_once}
use Rattle.tabled_settings.proofs.laws.reverse_takes_each_cell_once.Goals as goal

pub returns : goal.returns
returns c = record { once = λ rows columns p. reversed_once c.args._reverse.axis c.args._reverse.start c.args._reverse.limit rows columns p }
