use Rattle.tabled_held.proofs.SentBytes.{grows-then}
use Rattle.tabled_held.proofs.held.Held.send_each.Goals as goal

pub returns : goal.returns
returns g c = grows-then c.push.ensures c.write.ensures
