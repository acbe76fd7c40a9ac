use Rattle.std.specs.Prelude.{chars}
use Rattle.tabled_draw.proofs.Common.{ap, chars-nil, map_grid, rectangles, sym, ◌∙◌}
use Rattle.tabled_draw.proofs.Escapes.{hidden-apart}
use Rattle.tabled_draw.proofs.markdown_texts.text_at.Goals as goal

pub returns-then-is_hidden : goal.returns-then-is_hidden
returns-then-is_hidden g c = λ m is.
    ap chars c.new.ensures.bytes ∙ chars-nil
    ∙ hidden-apart (map_grid g.R.Cell.CellText.text_of (g.R.GridStore.grid c.args.records.now)) (rectangles m) c.args.pos (sym (c.is_hidden.ensures.hidden m is) ∙ c.if-is_hidden.true)
