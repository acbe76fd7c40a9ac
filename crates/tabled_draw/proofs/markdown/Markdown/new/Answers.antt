use Rattle.tabled_draw.proofs.Common.{ap, ap₂, fitting, length, map_grid, rectangles, subst, sym, ◌∙◌}
use Rattle.tabled_draw.proofs.Each.{length-singles}
use Rattle.tabled_draw.specs.Markdown.{lines_of, markdown, markdown_width, markdown_widths, rows_apart, rows_of_characters}
use Rattle.tabled_draw.specs.Picture.{bytes_of_lines}
use Rattle.tabled_grid.specs.Evenness.{AreWide}
use Rattle.tabled_grid.specs.Grid.{map_items}
use Rattle.tabled_draw.proofs.markdown.Markdown.new.Goals as goal

pub invariant_of-result : goal.invariant_of-result
invariant_of-result g c =
    let widths = ap length c.in_ok-widths.ensures ∙ length-singles (markdown_width (rows_of_characters c.deref.result.now)) c.count_columns.result ∙ c.count_columns.ensures.columns in
    (subst (λ n. AreWide n (map_items c.in_ok-rows.rows.items)) (sym widths) c.in_ok-rows.ensures.wide, c.in_ok-held.ensures.empty, c.in_ok-held.ensures.works)

pub returns : goal.returns
unfolding markdown
returns g c =
    let t = map_grid g.R.Cell.CellText.text_of (g.R.GridStore.grid c.args.records.now) in
    let rows = rows_apart t (fitting t.rows t.columns (rectangles c.args.cfg.now)) in
    let widths = c.in_ok-widths.ensures ∙ ap₂ markdown_widths c.count_columns.ensures.columns (ap rows_of_characters c.deref.ensures.value ∙ c.in_ok-rows.ensures.texts) in
    record { bytes = ap₂ (λ ws rs. bytes_of_lines (lines_of c.args.alignments.now ws rs)) widths c.in_ok-rows.ensures.texts }
