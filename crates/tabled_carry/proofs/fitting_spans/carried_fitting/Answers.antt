use Rattle.tabled_carry.proofs.Common.{◌∙◌, ◌≡◌, Fits, SpanMap, ap, image, map_of, map_of-rectangles, rectangles_anchors, subst, sym}
use Rattle.tabled_carry.proofs.fitting_spans.carried_fitting.Goals as goal

pub carry-requires-clause-anchors : goal.carry-requires-clause-anchors
carry-requires-clause-anchors g c = rw c.into_rectangles-anchors.ensures.rectangles (rectangles_anchors c.args.cfg)

pub carry-requires-clause-fits : goal.carry-requires-clause-fits
carry-requires-clause-fits g c =
    let is : map_of c.into_rectangles-anchors.result.items ≡ c.args.cfg = ap map_of c.into_rectangles-anchors.ensures.rectangles ∙ map_of-rectangles c.args.cfg in
    subst (λ (m : SpanMap). Fits m c.args.table.height c.args.table.width) (sym is) c.requires

pub returns : goal.returns
returns g c =
    let is : map_of c.into_rectangles-anchors.result.items ≡ c.args.cfg = ap map_of c.into_rectangles-anchors.ensures.rectangles ∙ map_of-rectangles c.args.cfg in
    record { image = c.from_rectangles.ensures.rectangles ∙ c.carry.ensures.image ∙ ap (image (g.M.Moves.places c.args.moves.now)) is }
