use Rattle.tabled_settings.proofs.TakenInOrder.{taken-distinct}
use Rattle.tabled_settings.proofs.laws.taken_indexes_are_distinct.Goals as goal

pub returns : goal.returns
returns c = taken-distinct
