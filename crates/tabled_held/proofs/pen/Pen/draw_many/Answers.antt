use Rattle.std.proofs.Common.{◌*◌, ◌++◌, ◌/◌, ◌∙◌, ◌≡◌, ap, arith, encode_utf8_all, replicate}
use Rattle.tabled_held.proofs.Pens.{sends-then, draws-bytes, sends-as}
use Rattle.tabled_held.proofs.Runs.{run-more, runs-all}
use Rattle.tabled_held.proofs.pen.Pen.draw_many.Goals as goal

pub loop-preserved : goal.loop-preserved
loop-preserved g c =
    sends-as (ap (λ x. encode_utf8_all (replicate (c.loop.counter * 64) c.args.c) ++ x) c.requires ∙ run-more c.loop.counter c.args.c)
    (sends-then c.loop.invariant c.send.ensures)

pub returns : goal.returns
returns g c =
    let count : c.loop.counter ≡ c.args.count / 64 = omega (arith, c.loop-test.false, c.loop.auto.counter-end) in
    draws-bytes (runs-all c.loop.counter c.args.count c.args.c count)
    (rw c.requires at (sends-then c.loop.invariant c.send-2.ensures))
