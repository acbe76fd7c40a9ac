use Rattle.tabled_carry.proofs.Common.{◌+◌, ◌≡◌, In, IsBefore, IsNone, Option, ap₂, arith, place, refl, same_Some, subst, sym, true≢false}
use Rattle.tabled_carry.proofs.Walks.{around-more, around-one, first_walked, walked}
use Rattle.tabled_carry.proofs.images.around.Goals as goal

pub loop-j-preserved : goal.loop-j-preserved
loop-j-preserved g c =
    let places = g.M.Moves.places c.args.moves.now in
    let q = c.new.result in
    let p = c.in_ok-pos.pos in
    let at : place c.loop-i.i c.loop-j.j ≡ q = ap₂ place (sym c.new.ensures.row) (sym c.new.ensures.col) in
    let inside : In c.args.of q = record { top = omega (arith, c.new.ensures.row); bottom = omega (arith, c.new.ensures.row); left = omega (arith, c.new.ensures.col); right = omega (arith, c.new.ensures.col) } in
    elim c.match-corners.branch [
      | goal.in-Some w ↦ (
        rw (w.corners-is, w.with.ensures.first, w.with.ensures.last)
            (around-more places c.args.of (λ r. In c.args.of r × IsBefore r (place c.loop-i.i c.loop-j.j)) (λ r. In c.args.of r × IsBefore r (place c.loop-i.i (c.loop-j.j + 1))) w.in-Some.known.first w.in-Some.known.last q p (walked c.args.of c.loop-i.i c.loop-j.j q at) c.in_ok-pos.ensures.takes (λ m t. sym (same_Some _ _ (c.in_ok-pos.ensures.finds m t))) inside c.in_ok-pos.ensures.row c.in_ok-pos.ensures.col (rw w.in-Some.is at c.loop-j.invariant.0)),
        λ e. absurd (true≢false e),
      )
      | goal.in-None w ↦ (
        rw w.corners-is
            (around-one places c.args.of (λ r. In c.args.of r × IsBefore r (place c.loop-i.i (c.loop-j.j + 1))) q p (first_walked c.args.of c.loop-i.i c.loop-j.j q at (c.loop-j.invariant.1 (subst (λ (o : Option _). IsNone o) (sym w.in-None.is) refl))) c.in_ok-pos.ensures.takes (λ m t. sym (same_Some _ _ (c.in_ok-pos.ensures.finds m t))) inside c.in_ok-pos.ensures.row c.in_ok-pos.ensures.col),
        λ e. absurd (true≢false e),
      )
    ]
