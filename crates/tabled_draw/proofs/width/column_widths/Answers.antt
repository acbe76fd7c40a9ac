use Rattle.tabled_draw.proofs.Common.{ap, map_grid, plan_of, widths, ◌∙◌}
use Rattle.tabled_draw.proofs.Fitting.{fits-of}
use Rattle.tabled_draw.proofs.PictureWidths.{kept-are-fitting}
use Rattle.tabled_draw.proofs.width.column_widths.Goals as goal

pub layout_of-requires-clause-fits : goal.layout_of-requires-clause-fits
layout_of-requires-clause-fits g c = fits-of (map_grid g.R.Cell.CellText.text_of (g.R.GridStore.grid c.args.records.now)) c.args.cfg.now c.in_ok-spans.spans _ _ c.count_rows-rows.ensures.rows c.count_columns-columns.ensures.columns c.in_ok-spans.ensures.fitting

pub returns : goal.returns
returns g c =
    let t = map_grid g.R.Cell.CellText.text_of (g.R.GridStore.grid c.args.records.now) in
    record { widths = c.in_ok-layout.ensures.widths ∙ ap (λ es. widths (plan_of c.args.style.now t es)) (kept-are-fitting t c.args.cfg.now c.in_ok-spans.spans _ _ c.count_rows-rows.ensures.rows c.count_columns-columns.ensures.columns c.in_ok-spans.ensures.fitting) }
