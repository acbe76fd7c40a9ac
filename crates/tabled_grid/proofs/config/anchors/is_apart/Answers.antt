use Rattle.tabled_grid.proofs.Common.{◌∙◌, arith, sym}
use Rattle.tabled_grid.proofs.NearAnchors.{anchors_after, apart_after}
use Rattle.tabled_grid.proofs.PassedAnchors.{apart_over, apart_past}
use Rattle.tabled_grid.proofs.config.anchors.is_apart.Goals as goal

pub returns-then-is_past : goal.returns-then-is_past
returns-then-is_past c = sym (apart_past c.args.from c.args.anchors.now c.args.first c.loop-k.k _ c.loop-k.invariant.low c.loop-k-test.true c.requires.anchors.sorted (sym c.is_past.ensures ∙ c.if-is_past.true)) ∙ c.loop-k.invariant.rest

pub beyond-requires-clause-anchors : goal.beyond-requires-clause-anchors
beyond-requires-clause-anchors c = anchors_after c.args.from c.args.anchors.now c.args.first c.loop-k.k _ c.loop-k.invariant.low c.loop-k-test.true c.requires.anchors

pub beyond-requires-clause-apart : goal.beyond-requires-clause-apart
beyond-requires-clause-apart c = apart_after c.args.anchors.now c.args.first c.loop-k.k c.loop-k.invariant.low c.requires.apart

pub loop-k-preserved : goal.loop-k-preserved
loop-k-preserved c = record {
  low = omega (arith, c.loop-k.invariant.low);
  rest = apart_over c.args.from c.args.anchors.now c.loop-k.k c.beyond.result _ _ c.loop-k-test.true (sym c.meets.ensures ∙ c.if-meets.false) c.beyond.ensures.apart c.loop-k.invariant.rest;
}
