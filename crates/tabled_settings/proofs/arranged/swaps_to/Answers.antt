use Rattle.std.proofs.Common.{◌<◌, ◌∙◌, arith, length, refl}
use Rattle.std.proofs.lemmas.List.{get_or_default}
use Rattle.tabled_settings.proofs.SwapsFound.{place_ahead, place_below, places_told, swaps_bring, found_more, found_none}
use Rattle.tabled_settings.proofs.arranged.swaps_to.Goals as goal

pub loop-k-init : goal.loop-k-init
loop-k-init c = rw (c.in_ok-swaps.ensures.items, c.in_ok-lines.ensures, c.in_ok-places.ensures) (found_none c.args.indexes.now c.args.count)

pub loop-k-preserved : goal.loop-k-preserved
loop-k-preserved c =
    let u = c.loop-k.invariant in
    let place = c.index-place.ensures ∙ get_or_default c.loop-k.places.items _ _ 0 (omega (arith, c.requires.below c.loop-k.k c.loop-k-test.true, u.back.many)) in
    let within : c.loop-k.k < length c.loop-k.lines.items = omega (arith, u.there.many, place_ahead _ _ _ _ _ _ _ _ c.requires u c.loop-k-test.true refl place, place_below _ _ _ _ _ _ _ _ c.requires u c.loop-k-test.true refl place) in
    rw (c.in_ok-push.ensures.items, c.swap.ensures.items, c.swap-in-loop-k.ensures.items) (found_more _ _ _ _ _ _ _ _ c.requires u c.loop-k-test.true refl place _ (c.index-other.ensures ∙ get_or_default c.loop-k.lines.items _ _ 0 within))

pub returns-clause-bring : goal.returns-clause-bring
returns-clause-bring c = swaps_bring _ _ _ _ c.loop-k.k _ c.loop-k.invariant (omega (arith, c.loop-k-test.false, c.loop-k.auto.k-end))

pub returns-clause-tell : goal.returns-clause-tell
returns-clause-tell c = places_told _ _ _ _ c.loop-k.k _ c.loop-k.invariant (omega (arith, c.loop-k-test.false, c.loop-k.auto.k-end)) c.requires
