use Rattle.tabled_draw.proofs.Common.{ap, sym, text_width, ◌-◌, ◌∙◌}
use Rattle.tabled_draw.proofs.Shown.{plain-line}
use Rattle.tabled_draw.proofs.Widths.{plain-columns}
use Rattle.tabled_draw.proofs.texts.free_beside.Goals as goal

pub returns : goal.returns
returns c = c.saturating_sub-2.ensures ∙ ap (λ n. c.args.room - n) (c.columns_in.ensures c.requires)

pub returns-then-line : goal.returns-then-line
returns-then-line c =
    let plain = c.args.line.now.plain c.if-line.true in
    c.saturating_sub.ensures ∙ ap (λ n. c.args.room - n) (sym (plain-columns c.args.line.now.text.now plain) ∙ ap text_width (sym (plain-line c.args.line.now.text.now plain)))
