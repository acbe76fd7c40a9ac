use Rattle.tabled_steps.proofs.Outside.{representatives_of-once}
use Rattle.tabled_steps.proofs.groups.Groups.into_representatives.Goals as goal

pub returns-in-Each : goal.returns-in-Each
returns-in-Each c = rw c.in-Each.is (representatives_of-once c.in-Each.entities.items)
