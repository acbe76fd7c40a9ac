use Rattle.tabled_grid.proofs.Common.{◌+◌, ◌-◌, ◌<◌, ◌∙◌, ◌≡◌, Rectangle, all_fit, arith, drop, length, place, rectangle, sized, subst, sym, true}
use Rattle.tabled_grid.proofs.NearAnchors.{anchors_from, unfit_met, unfit_outside}
use Rattle.tabled_grid.proofs.config.anchors.fit.Goals as goal

pub is_apart-requires-clause-anchors : goal.is_apart-requires-clause-anchors
is_apart-requires-clause-anchors c =
    let d : Rectangle = rectangle (place 0 0) (sized 0 0) in
    anchors_from c.args.anchors.now (c.loop-first.first - 1) d (omega arith) c.requires

pub is_apart-requires-clause-apart : goal.is_apart-requires-clause-apart
is_apart-requires-clause-apart c =
    let back : c.loop-first.first ≡ c.loop-first.first - 1 + 1 = omega arith in
    (c.args.rows, c.args.columns, subst (λ n. all_fit c.args.rows c.args.columns (drop n c.args.anchors.now) ≡ true) back c.loop-first.invariant)

pub returns-then-not-is_inside : goal.returns-then-not-is_inside
returns-then-not-is_inside c =
    let here : c.loop-first.first - 1 < length c.args.anchors.now = omega arith in
    let d : Rectangle = rectangle (place 0 0) (sized 0 0) in
    elim c.then-not-is_inside.branch [
      | goal.then-not-is_inside-via-then-not-is_inside w ↦ sym (unfit_outside c.args.rows c.args.columns c.args.anchors.now (c.loop-first.first - 1) d here (sym c.is_inside.ensures ∙ w.if-not-is_inside.true))
      | goal.then-not-is_inside-via-else-not-is_inside+then-not-is_apart w ↦ sym (unfit_met c.args.rows c.args.columns c.args.anchors.now (c.loop-first.first - 1) d here (sym w.is_apart.ensures ∙ w.if-not-is_apart.true))
    ]
