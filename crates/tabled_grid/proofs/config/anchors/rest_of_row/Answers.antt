use Rattle.tabled_grid.proofs.Common.{◌+◌, ◌∙◌, ◌≡◌, ◌≤◌, Less, Position, ap₂, arith, get_or, ltb-false, place, position_cmp, subst, sym}
use Rattle.tabled_grid.proofs.BesideAnchors.{apart_beyond}
use Rattle.tabled_grid.proofs.SortedEntries.{halves}
use Rattle.tabled_grid.proofs.config.anchors.rest_of_row.Goals as goal

pub returns-clause-apart : goal.returns-clause-apart
returns-clause-apart c =
    let next : c.saturating_add.result ≤ c.args.pos.row + 1 = omega (arith, c.saturating_add.ensures) in
    let right : c.args.from.first.col + c.args.from.size.width ≤ c.args.pos.col = ltb-false c.args.pos.col (c.args.from.first.col + c.args.from.size.width) (sym c.begins_before.ensures ∙ c.if-begins_before.false) in
    let target : c.new.result ≡ place c.saturating_add.result 0 = ap₂ place c.new.ensures.row c.new.ensures.col in
    apart_beyond c.args.from c.args.pos c.saturating_add.result next right c.args.anchors.now c.count_before.result (halves _ _ c.requires).0
    (λ j d h. subst (λ (p : Position). position_cmp (get_or c.args.anchors.now j d).first p ≡ Less) target (c.count_before.ensures.before j d (omega arith) h)) c.count_before.ensures.within
