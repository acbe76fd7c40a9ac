use Rattle.tabled_grid.proofs.Common.{◌∙◌, Rectangle, T, ap, arith, drop, get_or, is_lt, place, rectangle, sized, sym}
use Rattle.tabled_grid.proofs.MergedAnchors.{anchor_step, size_step, starts_at, starts_from, starts_past}
use Rattle.tabled_grid.proofs.config.anchors.merge.Goals as goal

abbrev none : Rectangle
none = rectangle (place 0 0) (sized 0 0)

pub loop-next-preserved : goal.loop-next-preserved
loop-next-preserved c = record {
  within = omega (arith, c.loop-next-test.true);
  merged = rw c.in_ok-push.ensures.items (anchor_step c.loop-next.merged.items c.args.anchors.now c.args.sizes.now c.loop-next.next c.loop-k.k none c.loop-next-test.true c.loop-k-test.true (ap is_lt (sym c.cmp.ensures) ∙ sym c.is_lt.ensures ∙ c.if-is_lt.true) c.loop-next.invariant.merged);
}

pub loop-k-preserved : goal.loop-k-preserved
loop-k-preserved c =
    let from : T (starts_from (get_or c.args.sizes.now c.loop-k.k none).first (drop c.loop-next.next c.args.anchors.now)) = elim c.loop-next-test.branch [
      | goal.then-loop-next-test+else-is_lt w ↦ starts_at c.args.anchors.now c.loop-next.next none _ w.loop-next-test.true (ap is_lt (sym w.cmp.ensures) ∙ sym w.is_lt.ensures ∙ w.if-is_lt.false)
      | goal.else-loop-next-test w ↦ starts_past c.args.anchors.now c.loop-next.next _ (omega (arith, w.loop-next-test.false))
    ] in
    record {
      within = c.after-next.ensures.within;
      merged = rw c.in_ok-push_anchor.ensures (size_step c.loop-next.merged.items c.args.anchors.now c.args.sizes.now c.loop-next.next c.loop-k.k none _ c.loop-k-test.true from c.after-next.ensures.after c.loop-next.invariant.merged);
    }
