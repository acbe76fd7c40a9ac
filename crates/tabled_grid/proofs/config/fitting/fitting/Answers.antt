use Rattle.tabled_grid.proofs.Common.{[], ◌&&◌, ◌++◌, ◌∙◌, ◌∷◌, ◌≡◌, AreSorted, Global, Rectangle, and_from, and_left, and_right, ap, cond, cond-false, cond-true, drop_more, get_or, lies_inside, not, not_from_false, not_from_true, place, rectangle, sized, subst, sym}
use Rattle.std.proofs.Common.{Vec}
use Rattle.tabled_grid.proofs.MetAnchors.{kept-more, kept-none}
use Rattle.tabled_grid.proofs.PassedAnchors.{all_after, sorted_drop}
use Rattle.tabled_grid.proofs.config.fitting.fitting.Goals as goal

pub loop-i-init : goal.loop-i-init
loop-i-init c = rw c.new-kept.ensures.items (kept-none c.args.rows c.args.columns c.args.anchors.now c.in_ok-marks.marks.items (c.in_ok-marks.ensures.items_if_clones_equal (λ y h. h)))

pub mark_met-alone-requires-clause-sorted : goal.mark_met-alone-requires-clause-sorted
mark_met-alone-requires-clause-sorted c =
    let es = c.args.anchors.now in
    let i = c.loop-i.i in
    let d : Rectangle = rectangle (place 0 0) (sized 0 0) in
    subst AreSorted (drop_more es i d c.loop-i-test.true ∙ ap (λ fs. get_or es i d ∷ fs) (sym (all_after es i))) (sorted_drop i es c.requires)

pub loop-i-preserved : goal.loop-i-preserved
loop-i-preserved c =
    let es = c.args.anchors.now in
    let d : Rectangle = rectangle (place 0 0) (sized 0 0) in
    let e : Rectangle = get_or es c.loop-i.i d in
    let alone = c.mark_met-alone.result in
    let met = c.index-is_met.result.now in
    let inside = lies_inside c.args.rows c.args.columns e in
    let kept = c.loop-i.kept.items in
    let newer : c.if-alone.kept.items ≡ cond ((alone && not met) && inside) (kept ++ e ∷ []) kept = elim c.if-alone.branch [
      | goal.then-alone+then-not-is_met+then-is_inside+in_ok-push w ↦ ap (λ (v : Vec Rectangle Global). v.items) w.kept-is ∙ w.in_ok-push.ensures.items ∙ sym (cond-true ((alone && not met) && inside) (kept ++ e ∷ []) kept (and_from (alone && not met) inside (and_from alone (not met) w.if-alone.true (not_from_false met w.if-not-is_met.true)) (sym w.is_inside.ensures ∙ w.if-is_inside.true)))
      | goal.else-alone w ↦ ap (λ (v : Vec Rectangle Global). v.items) w.kept-is ∙ sym (cond-false ((alone && not met) && inside) (kept ++ e ∷ []) kept (elim w.else-alone.branch [
        | goal.else-alone-via-then-alone+then-not-is_met+else-is_inside v ↦ and_right (alone && not met) inside (sym v.is_inside.ensures ∙ v.if-is_inside.false)
        | goal.else-alone-via-then-alone+else-not-is_met v ↦ and_left (alone && not met) inside (and_right alone (not met) (not_from_true met v.if-not-is_met.false))
        | goal.else-alone-via-else-alone v ↦ and_left (alone && not met) inside (and_left alone (not met) v.if-alone.false)
      ]))
    ] in
    kept-more c.args.rows c.args.columns es c.loop-i.i d c.loop-i-test.true kept c.loop-i.marks.items c.loop-i.invariant c.requires c.deref_mut.result.now c.mark_met-alone.new.marks _ c.loop-i.marks.len c.if-alone.kept.items alone met _
    c.deref_mut.ensures.value (sym c.deref_mut.ensures.len) c.mark_met-alone.auto.marks c.mark_met-alone.ensures.marked c.mark_met-alone.ensures.alone c.index-is_met.ensures newer
