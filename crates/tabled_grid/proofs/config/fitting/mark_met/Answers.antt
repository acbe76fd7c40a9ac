use Rattle.tabled_grid.proofs.Common.{◌∙◌, arith, sym}
use Rattle.std.proofs.Common.{length-set}
use Rattle.tabled_grid.proofs.MetAnchors.{walked-all, walked-met, walked-out}
use Rattle.tabled_grid.proofs.PassedAnchors.{apart_past, apart_sorted}
use Rattle.tabled_grid.proofs.config.fitting.mark_met.Goals as goal

pub returns-then-is_past-clause-alone : goal.returns-then-is_past-clause-alone
returns-then-is_past-clause-alone c = (walked-all c.args.from c.args.anchors.now c.args.marks.now c.loop-k.k c.loop-k.marks c.loop-k.alone (apart_past c.args.from c.args.anchors.now 0 c.loop-k.k _ (omega arith) c.loop-k-test.true c.requires.sorted (sym c.is_past.ensures ∙ c.if-is_past.true)) c.loop-k.invariant).0

pub returns-then-is_past-clause-marked : goal.returns-then-is_past-clause-marked
returns-then-is_past-clause-marked c = (walked-all c.args.from c.args.anchors.now c.args.marks.now c.loop-k.k c.loop-k.marks c.loop-k.alone (apart_past c.args.from c.args.anchors.now 0 c.loop-k.k _ (omega arith) c.loop-k-test.true c.requires.sorted (sym c.is_past.ensures ∙ c.if-is_past.true)) c.loop-k.invariant).1

pub loop-k-preserved-then-meets : goal.loop-k-preserved-then-meets
loop-k-preserved-then-meets c = walked-met c.args.from c.args.anchors.now c.args.marks.now c.loop-k.k c.loop-k.marks c.loop-k.alone _ c.loop-k-test.true (sym c.meets.ensures ∙ c.if-meets.true) (length-set c.loop-k.marks c.loop-k.k _) c.loop-k.invariant

pub rest_of_row-requires : goal.rest_of_row-requires
rest_of_row-requires c = apart_sorted c.args.from c.args.anchors.now 0 c.loop-k.k _ (omega arith) c.loop-k-test.true c.requires.sorted

pub loop-k-preserved : goal.loop-k-preserved
loop-k-preserved c = walked-out c.args.from c.args.anchors.now c.args.marks.now c.loop-k.k c.loop-k.marks c.loop-k.alone _ c.rest_of_row.result c.loop-k-test.true (sym c.meets.ensures ∙ c.if-meets.false) c.rest_of_row.ensures.apart c.loop-k.invariant
