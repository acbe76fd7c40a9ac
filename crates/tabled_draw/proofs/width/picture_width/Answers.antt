use Rattle.std.proofs.lemmas.List.{get_or_read}
use Rattle.tabled_draw.proofs.Common.{arith, left, map_grid, plan_of, rectangles, ◌+◌, ◌<◌, ◌∙◌, ◌≡◌}
use Rattle.tabled_draw.proofs.Fitting.{fits-of}
use Rattle.tabled_draw.proofs.PictureWidths.{width-of}
use Rattle.tabled_draw.proofs.width.picture_width.Goals as goal

pub layout_of-requires-clause-fits : goal.layout_of-requires-clause-fits
layout_of-requires-clause-fits g c = fits-of (map_grid g.R.Cell.CellText.text_of (g.R.GridStore.grid c.args.records.now)) c.args.cfg.now c.in_ok-spans.spans _ _ c.count_rows-rows.ensures.rows c.count_columns-columns.ensures.columns c.in_ok-spans.ensures.fitting

pub returns-in-Some : goal.returns-in-Some
returns-in-Some g c = record {
  width = let t = map_grid g.R.Cell.CellText.text_of (g.R.GridStore.grid c.args.records.now) in
      let es = rectangles c.in_ok-spans.spans in
      let columns = c.count_columns-columns.ensures.columns in
      let laid = c.in_ok-layout.ensures.edges in
      let within : c.count_columns-columns.result < t.columns + 1 = omega (arith, columns) in
      let edge : c.index-before.result.now ≡ left (plan_of c.args.style.now t es) c.count_columns-columns.result = get_or_read c.in_ok-layout.layout.edges.items _ _ (omega (arith, laid.long, within)) c.index-before.ensures 0 ∙ laid.each c.count_columns-columns.result within in
      width-of c.args.style.now t c.args.cfg.now c.in_ok-spans.spans _ _ _ _ _ c.count_rows-rows.ensures.rows columns c.in_ok-spans.ensures.fitting edge c.line_size-last.ensures c.in-Some.ensures.1;
}
