use Rattle.tabled_draw.proofs.Common.{ap, arith, replicate, replicate-append-replicate, ◌≡◌}
use Rattle.tabled_held.proofs.Pens.{draws-as, draws-then}
use Rattle.tabled_draw.proofs.markdown.write_level_dashes.Goals as goal

pub loop-preserved : goal.loop-preserved
loop-preserved g c = draws-as (replicate-append-replicate c.loop.counter 1 45) (draws-then c.loop.invariant c.draw.ensures)

pub returns : goal.returns
returns g c = let count : c.loop.counter ≡ c.args.count = omega (arith, c.loop-test.false, c.loop.auto.counter-end) in draws-as (ap (λ n. replicate n 45) count) c.loop.invariant
