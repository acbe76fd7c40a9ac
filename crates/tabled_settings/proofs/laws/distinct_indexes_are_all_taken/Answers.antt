use Rattle.tabled_settings.proofs.TakenInOrder.{taken-all}
use Rattle.tabled_settings.proofs.laws.distinct_indexes_are_all_taken.Goals as goal

pub returns : goal.returns
returns c = taken-all
