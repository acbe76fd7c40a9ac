use Rattle.tabled_settings.proofs.TurnedTwice.{left_twice}
use Rattle.tabled_settings.proofs.laws.left_twice_is_a_half_turn.Goals as goal

pub returns : goal.returns
returns g c = record { half = λ old between new. left_twice old between new }
