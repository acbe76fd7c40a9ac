use Rattle.tabled_language.proofs.Common.{◌∙◌, ◌≡◌, IsCharBoundary-after_ascii, IsCharBoundary-before_ascii, ap, arith, take}
use Rattle.tabled_language.proofs.Separated.{ascii_at_place, one_part, part_and_others}
use Rattle.tabled_language.proofs.text_parts.first_part.Goals as goal

pub range-requires-clause-end_boundary : goal.range-requires-clause-end_boundary
range-requires-clause-end_boundary g c =
    let text = c.args.text.now in
    let i = c.in-Some.place in
    let place = rw c.as_bytes.ensures.value at c.in-Some.ensures in
    IsCharBoundary-before_ascii text i place.1 (ascii_at_place g.row.AT text i c.requires place.0 place.1)

pub range_from-requires : goal.range_from-requires
range_from-requires g c =
    let text = c.args.text.now in
    let i = c.in-Some.place in
    let place = rw c.as_bytes.ensures.value at c.in-Some.ensures in
    λ _. IsCharBoundary-after_ascii text i c.utf8.text place.1 (ascii_at_place g.row.AT text i c.requires place.0 place.1)

pub returns-in-Some : goal.returns-in-Some
returns-in-Some g c =
    let text = c.args.text.now in
    let i = c.in-Some.place in
    let place = rw c.as_bytes.ensures.value at c.in-Some.ensures in
    let before : c.range.result.now ≡ take i text = c.range.ensures.value ∙ ap (λ n. take n text) (omega arith) in
    rw (before, c.range_from.ensures.value) (part_and_others g.row.AT text i place.0 place.1)

pub returns-in-None : goal.returns-in-None
returns-in-None g c =
    let nowhere = rw c.as_bytes.ensures.value at c.in-None.ensures in
    one_part g.row.AT c.args.text.now (omega (arith, nowhere))
