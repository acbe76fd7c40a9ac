use Rattle.tabled_draw.proofs.Common.{[], ap, bytes_in, cond-true, get_or, is_drawn, length, sym, true, ◌∙◌, ◌≡◌}
use Rattle.tabled_held.proofs.Pens.{draws-as}
use Rattle.tabled_draw.proofs.Unmerged.{left-unmerged, unmerged-is}
use Rattle.tabled_draw.specs.Unmerged.{unmerged_line}
use Rattle.tabled_draw.proofs.drawing.write_border.Goals as goal

pub returns-then-is_unmerged-clause-draws : goal.returns-then-is_unmerged-clause-draws
returns-then-is_unmerged-clause-draws g c =
    let sheet = c.args.sheet.now in
    let drawn : is_drawn sheet.look.style.rows sheet.rows c.args.i ≡ true = sym c.is_drawn.ensures ∙ c.if-not-is_drawn.false in
    draws-as
    (ap (λ n. unmerged_line sheet.look.style sheet.rows n c.args.i sheet.edges.now) c.requires.columns
    ∙ unmerged-is sheet.rows (length c.args.rests.now.items) c.args.i c.args.above.now c.args.below.now (c.requires.unmerged c.if-is_unmerged.true) sheet (bytes_in c.args.rests.now.items)
    ∙ sym (cond-true _ _ _ drawn))
    c.write_known_line.ensures.draws

pub returns-then-is_unmerged-clause-rests : goal.returns-then-is_unmerged-clause-rests
returns-then-is_unmerged-clause-rests g c =
    let drawn : is_drawn c.args.sheet.now.look.style.rows c.args.sheet.now.rows c.args.i ≡ true = sym c.is_drawn.ensures ∙ c.if-not-is_drawn.false in
    λ j less. left-unmerged c.args.sheet.now.rows (length c.args.rests.now.items) c.args.i c.args.above.now c.args.below.now (c.requires.unmerged c.if-is_unmerged.true) j (get_or (bytes_in c.args.rests.now.items) j []) less ∙ sym (cond-true _ _ _ drawn)
