use Rattle.tabled_grid.proofs.Common.{◌≡◌, Less, Position, Rectangle, ap₂, arith, get_or, place, position_cmp, subst}
use Rattle.tabled_grid.proofs.BesideAnchors.{Reaches, before_found, before_missed, passed_over, reaches_here, reaches_next}
use Rattle.tabled_grid.proofs.SortedEntries.{halves}
use Rattle.tabled_grid.proofs.config.anchors.beside.Goals as goal

pub returns-in-Ok-clause-free : goal.returns-in-Ok-clause-free
returns-in-Ok-clause-free c =
    let reaches : Reaches c.args.by c.args.pos c.if-pos-left.row = elim c.if-pos-left.branch [
      | goal.then-pos-left w ↦ reaches_here c.args.by c.args.pos _ w.if-pos-left.true w.row-is
      | goal.else-pos-left w ↦ reaches_next c.args.by c.args.pos _ w.if-pos-left.false (omega (arith, w.row-is, w.saturating_add-row.ensures))
    ] in
    let target : c.new.result ≡ place c.if-pos-left.row c.args.by.first.col = ap₂ place c.new.ensures.row c.new.ensures.col in
    passed_over c.args.by c.args.pos c.if-pos-left.row reaches c.requires.out c.args.anchors.now c.in-Ok.i (halves _ _ c.requires.sorted).0
    (λ j d h. subst (λ (p : Position). position_cmp (get_or c.args.anchors.now j d).first p ≡ Less) target (before_found c.args.anchors.now c.new.result c.in-Ok.i (halves _ _ c.requires.sorted).1 c.in-Ok.ensures.within (λ (e : Rectangle). c.in-Ok.ensures.found e) j d h)) (omega (arith, c.in-Ok.ensures.within))

pub returns-in-Ok-2-clause-free : goal.returns-in-Ok-2-clause-free
returns-in-Ok-2-clause-free c =
    let reaches : Reaches c.args.by c.args.pos c.if-pos-left.row = elim c.if-pos-left.branch [
      | goal.then-pos-left w ↦ reaches_here c.args.by c.args.pos _ w.if-pos-left.true w.row-is
      | goal.else-pos-left w ↦ reaches_next c.args.by c.args.pos _ w.if-pos-left.false (omega (arith, w.row-is, w.saturating_add-row.ensures))
    ] in
    let target : c.new.result ≡ place c.if-pos-left.row c.args.by.first.col = ap₂ place c.new.ensures.row c.new.ensures.col in
    passed_over c.args.by c.args.pos c.if-pos-left.row reaches c.requires.out c.args.anchors.now c.in-Ok.i (halves _ _ c.requires.sorted).0
    (λ j d h. subst (λ (p : Position). position_cmp (get_or c.args.anchors.now j d).first p ≡ Less) target (before_missed c.args.anchors.now c.new.result c.in-Ok.i (halves _ _ c.requires.sorted).1 c.in-Ok.ensures.found j d h)) c.in-Ok.ensures.within
