use Rattle.tabled_carry.proofs.Back.{carried_back}
use Rattle.tabled_carry.proofs.laws.carried_there_and_back_is_as_it_was.Goals as goal

pub returns : goal.returns
returns c = λ there back rows columns m leads all fits. carried_back there back leads m rows columns fits all
