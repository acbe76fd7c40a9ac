use Rattle.tabled_settings.proofs.TurnedTwice.{reversed_twice}
use Rattle.tabled_settings.proofs.laws.reversed_twice_is_as_it_was.Goals as goal

pub returns : goal.returns
returns g c = record { same = λ old between new. reversed_twice c.args._reverse.axis c.args._reverse.start c.args._reverse.limit old between new }
