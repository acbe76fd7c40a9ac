use Rattle.std.proofs.Common.{◌++◌, ◌∙◌, ap₂, arith}
use Rattle.tabled_held.proofs.Runs.{run-whole}
use Rattle.tabled_held.proofs.Pens.{encodes-more}
use Rattle.tabled_held.proofs.run.run_of.Goals as goal

pub loop-preserved : goal.loop-preserved
loop-preserved c =
    c.in_ok-extend_from_slice.ensures.items
    ∙ ap₂ (λ x y. x ++ y) c.loop.invariant (c.as_bytes-bytes.ensures.value ∙ c.encode_utf8.ensures.value)
    ∙ encodes-more c.loop.counter c.args.c

pub returns : goal.returns
returns c = c.loop.invariant ∙ run-whole c.loop.counter c.args.c (omega (arith, c.loop-test.false, c.loop.auto.counter-end))
