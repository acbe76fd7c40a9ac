use Rattle.std.specs.Prelude.{chars}
use Rattle.tabled_draw.proofs.Common.{Draws, ap, refl, sym, ◌-◌, ◌∙◌}
use Rattle.tabled_draw.proofs.Pens.{draws-aligned}
use Rattle.tabled_held.proofs.Pens.{draws-bytes}
use Rattle.std.proofs.lemmas.Str.{encodes-chars}
use Rattle.tabled_draw.proofs.markdown.write_cell.Goals as goal

pub returns : goal.returns
returns g c =
    let shown = chars c.args.text.now in
    let sent : Draws g.W.Write.contents c.draw_blanks.new.self c.send.new.self shown = draws-bytes (c.as_bytes.ensures.value ∙ sym (encodes-chars c.args.text.now c.utf8.text)) c.send.ensures in
    draws-aligned c.args.alignment c.args.width c.saturating_sub-free.result c.indent-before.result c.saturating_sub.result shown shown refl (c.saturating_sub-free.ensures ∙ ap (λ n. c.args.width - n) c.columns_of.ensures.value) c.indent-before.ensures c.saturating_sub.ensures c.draw.ensures c.draw_blanks.ensures sent c.draw_blanks-2.ensures c.draw-2.ensures
