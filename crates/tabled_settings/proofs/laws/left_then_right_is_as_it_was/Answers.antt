use Rattle.tabled_settings.proofs.TurnedTwice.{left_then_right}
use Rattle.tabled_settings.proofs.laws.left_then_right_is_as_it_was.Goals as goal

pub returns : goal.returns
returns g c = record { same = λ old between new. left_then_right old between new }
