use Rattle.tabled_select.proofs.Common.{◌∙◌, ◌≡◌, TellsLocated, items_from_drains, subst, sym}
use Rattle.std.proofs.Common.{map-id}
use Rattle.tabled_select.proofs.LocatedMarks.{all-told}
use Rattle.tabled_select.proofs.location.marking.marks.Goals as goal

pub returns-clause-marks : goal.returns-clause-marks
returns-clause-marks g c =
    let listed = c.in_ok-found.ensures.lists in
    let over = listed.4 _ c.into_iter-index-iterator.ensures.into_iter_gives in
    let all = c.loop-index.yielded in
    let kept : all ≡ listed.1 = sym (map-id all) ∙ items_from_drains {steps = g.L.IntoIter.IntoIter.Iterator.next_gives} {s = c.into_iter-index-iterator.result} all (c.loop-index.index-iterator, c.loop-index.yielded_by, λ _. (c.next.new.self, c.in-None.ensures.steps)) (record { runs = over.gives }) in (
      listed.0,
      listed.2,
      all-told listed.0 listed.1 c.args.count _ listed.3 (subst (λ found. TellsLocated found c.args.count c.loop-index.marks.items) kept c.loop-index.invariant.told),
    )
