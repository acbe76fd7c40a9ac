use Rattle.tabled_grid.proofs.Common.{◌≡◌, Less, Position, ap₂, arith, get_or, place, position_cmp, subst}
use Rattle.tabled_grid.proofs.NearAnchors.{near_passed}
use Rattle.tabled_grid.proofs.SortedEntries.{halves}
use Rattle.tabled_grid.proofs.config.anchors.beyond.Goals as goal

pub returns-then-pos-left-clause-apart : goal.returns-then-pos-left-clause-apart
returns-then-pos-left-clause-apart c =
    let up = halves _ _ c.requires.anchors.sorted in
    let target : c.new.result ≡ place c.args.pos.row c.args.from.first.col = ap₂ place c.new.ensures.row c.new.ensures.col in
    near_passed c.args.from c.args.pos c.args.anchors.now c.count_before.result c.saturating_sub.result (omega (arith, c.saturating_sub.ensures)) up.1 c.requires.anchors.sizes.1 c.requires.apart up.0
    (λ j d h. subst (λ (p : Position). position_cmp (get_or c.args.anchors.now j d).first p ≡ Less) target (c.count_before.ensures.before j d (omega arith) h)) c.count_before.ensures.within
