use Rattle.std.proofs.lemmas.Grind.{common_steps}
use Rattle.std.proofs.Common.{ap, arith}
use Rattle.tabled_held.specs.Sent.{Kept}
use Rattle.tabled_held.proofs.SentBytes.{grows-held}
use Rattle.tabled_held.proofs.held.Held.write.Goals as goal

pub returns : goal.returns
returns g c = grows-held c.args.self.now _ c.args.bytes.now (ap (λ (k : Kept). k.failure) c.self.view_is) (grind (arith, common_steps))
