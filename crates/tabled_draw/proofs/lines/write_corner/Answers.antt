use Rattle.tabled_draw.proofs.Common.{None, Option, Some, [], ap, arms, corner_if, false, marked, refl, sym, ℕ, ◌∙◌, ◌≡◌}
use Rattle.tabled_draw.proofs.Arms.{marked-corner, same-arms}
use Rattle.tabled_held.proofs.Pens.{draws-as, draws-none}
use Rattle.tabled_draw.proofs.lines.write_corner.Goals as goal

-- nothing is marked where the line isn't drawn
undrawn : (mark : Option ℕ) → [] ≡ marked false mark
undrawn None = refl
undrawn (Some c) = refl

pub returns-then-not-drawn : goal.returns-then-not-drawn
returns-then-not-drawn g c =
    let meeting = arms c.args.above.0 c.args.above.1 c.args.below.0 c.args.below.1 in
    draws-as (rw c.if-not-drawn.true (undrawn (corner_if c.args.sheet.now.look.style meeting) ∙ sym (marked-corner c.args.sheet.now.look.style false meeting))) draws-none

pub returns : goal.returns
returns g c =
    let style = c.args.sheet.now.look.style in
    let meeting = arms c.args.above.0 c.args.above.1 c.args.below.0 c.args.below.1 in
    let same = same-arms _ _ _ _ _ _ _ _ c.differ-up.ensures c.requires.right c.differ-down.ensures c.requires.left in
    draws-as (ap (marked c.args.drawn) (c.corner-corner.ensures ∙ ap (corner_if style) same) ∙ sym (marked-corner style c.args.drawn meeting)) c.write_mark.ensures
