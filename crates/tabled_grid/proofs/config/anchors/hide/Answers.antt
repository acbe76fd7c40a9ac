use Rattle.tabled_grid.proofs.Common.{◌∙◌, arith, sym}
use Rattle.std.proofs.Common.{length-set}
use Rattle.tabled_grid.proofs.PassedAnchors.{hidden_held, hidden_over, hidden_past, sorted_after}
use Rattle.tabled_grid.proofs.config.anchors.hide.Goals as goal

pub returns-then-is_past : goal.returns-then-is_past
returns-then-is_past c = hidden_past c.args.by c.args.anchors.now c.loop-k.anchors c.args.first c.loop-k.k _ c.loop-k.invariant.from c.loop-k-test.true c.loop-k.invariant.long c.loop-k.invariant.changed c.requires.sorted (sym c.is_past.ensures ∙ c.if-is_past.true)

pub loop-k-preserved-then-holds : goal.loop-k-preserved-then-holds
loop-k-preserved-then-holds c = record {
  from = omega (arith, c.loop-k.invariant.from);
  long = length-set c.loop-k.anchors c.loop-k.k _ ∙ c.loop-k.invariant.long;
  changed = hidden_held c.args.by c.args.anchors.now c.loop-k.anchors c.args.first c.loop-k.k _ c.loop-k.invariant.from c.loop-k-test.true c.loop-k.invariant.long c.loop-k.invariant.changed (sym c.holds.ensures ∙ c.if-holds.true);
}

pub beside-requires-clause-sorted : goal.beside-requires-clause-sorted
beside-requires-clause-sorted c = sorted_after c.args.by c.args.anchors.now c.loop-k.anchors c.args.first c.loop-k.k _ c.loop-k.invariant.from c.loop-k-test.true c.loop-k.invariant.long c.loop-k.invariant.changed c.requires.sorted

pub loop-k-preserved : goal.loop-k-preserved
loop-k-preserved c = record {
  from = omega (arith, c.loop-k.invariant.from);
  long = c.loop-k.invariant.long;
  changed = hidden_over c.args.by c.args.anchors.now c.loop-k.anchors c.args.first c.loop-k.k _ c.loop-k.invariant.from c.loop-k-test.true c.loop-k.invariant.long c.loop-k.invariant.changed c.beside.result (sym c.holds.ensures ∙ c.if-holds.false) c.beside.ensures.free;
}
