use Rattle.std.proofs.lemmas.Grind.{common_steps}
use Rattle.std.proofs.lemmas.List.{replicate-append-replicate}
use Rattle.std.proofs.Common.{ap, arith, replicate}
use Rattle.tabled_held.specs.Sent.{Kept}
use Rattle.tabled_held.proofs.SentBytes.{grows-as, grows-held, grows-then}
use Rattle.tabled_held.proofs.held.Held.repeat.Goals as goal

pub loop-preserved : goal.loop-preserved
loop-preserved g c = grows-as (replicate-append-replicate c.loop.counter 1 c.args.byte) (grows-then c.loop.invariant c.push.ensures)

pub returns : goal.returns
returns g c = grows-held c.args.self.now _ (replicate c.args.count c.args.byte) (ap (λ (k : Kept). k.failure) c.self.view_is) (grind (arith, common_steps))
