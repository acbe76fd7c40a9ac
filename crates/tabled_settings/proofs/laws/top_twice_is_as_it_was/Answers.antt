use Rattle.tabled_settings.proofs.TurnedTwice.{top_twice}
use Rattle.tabled_settings.proofs.laws.top_twice_is_as_it_was.Goals as goal

pub returns : goal.returns
returns g c = record { same = λ old between new. top_twice old between new }
