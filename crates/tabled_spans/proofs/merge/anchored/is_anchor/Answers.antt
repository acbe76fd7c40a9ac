use Rattle.tabled_spans.proofs.Common.{◌∙◌, arith}
use Rattle.tabled_spans.proofs.Anchored.{anchor_found, none_left, none_past}
use Rattle.tabled_spans.proofs.merge.anchored.is_anchor.Goals as goal

pub returns-then-many-eq0 : goal.returns-then-many-eq0
returns-then-many-eq0 c =
    elim c.then-many-eq0.branch [
      | goal.then-many-eq0-via-then-many-eq0 w ↦ none_left c.args.cfg.now c.args.pos c.args.many c.requires w.if-many-eq0.true
      | goal.then-many-eq0-via-else-many-eq0+then-anchors-many w ↦ none_past c.args.cfg.now c.args.pos c.args.many c.requires _ (omega (arith, w.if-many-eq0.false)) (rw c.rectangles-anchors.ensures.rectangles at w.if-anchors-many.true)
    ]

pub returns : goal.returns
returns c = c.is_ok.ensures.value ∙ anchor_found c.args.cfg.now c.args.pos c.args.many c.requires c.search.result (rw c.rectangles-anchors.ensures.rectangles at c.search.ensures.within) (rw c.rectangles-anchors.ensures.rectangles at c.search.ensures.found)
