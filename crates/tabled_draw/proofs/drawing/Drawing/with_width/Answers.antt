use Rattle.std.proofs.lemmas.List.{get_or_read}
use Rattle.tabled_draw.proofs.Common.{IsBetween, Rows, ap, arith, left, length, length-replicate, map_grid, plan_of, rectangles, subst, ◌+◌, ◌<◌, ◌∙◌, ◌≡◌}
use Rattle.tabled_draw.proofs.Fitting.{bytes-drawn, fits-of}
use Rattle.tabled_draw.proofs.PictureWidths.{width-of}
use Rattle.tabled_draw.proofs.Sizes.{length-sizes}
use Rattle.tabled_draw.proofs.drawing.Drawing.with_width.Goals as goal

pub layout_of-requires-clause-fits : goal.layout_of-requires-clause-fits
layout_of-requires-clause-fits g c = fits-of (map_grid g.R.Cell.CellText.text_of (g.R.GridStore.grid c.args.records.now)) c.args.cfg.now c.in_ok-spans.spans _ _ c.count_rows-rows.ensures.rows c.count_columns-columns.ensures.columns c.in_ok-spans.ensures.fitting

pub invariant_of-drawing : goal.invariant_of-drawing
invariant_of-drawing g c =
    let t = map_grid g.R.Cell.CellText.text_of (g.R.GridStore.grid c.args.records.now) in
    let m = c.in_ok-spans.spans in (
      c.requires.well,
      record {
        fits = fits-of t c.args.cfg.now m _ _ c.count_rows-rows.ensures.rows c.count_columns-columns.ensures.columns c.in_ok-spans.ensures.fitting;
        layout = c.in_ok-layout.ensures;
        tall = ap length c.in_ok-layout.ensures.heights ∙ length-sizes Rows c.args.look.now.style t (rectangles m);
        rests = ap length (c.in_ok-rests.ensures.items_if_clones_equal (λ y e. e)) ∙ length-replicate _ _ ∙ c.count_columns-columns.ensures.columns;
        level = c.in_ok-level.ensures;
        between = subst (λ n. IsBetween c.args.look.now.style n c.in_ok-layout.layout.edges.items c.in_ok-between.between.items) c.count_columns-columns.ensures.columns
            (subst (λ e. IsBetween c.args.look.now.style c.count_columns-columns.result e c.in_ok-between.between.items) c.deref-2.ensures.value c.in_ok-between.ensures);
        unused = c.in_ok-held.ensures.empty;
        works = c.in_ok-held.ensures.works;
      },
    )

pub returns : goal.returns
returns g c =
    let t = map_grid g.R.Cell.CellText.text_of (g.R.GridStore.grid c.args.records.now) in
    let es = rectangles c.in_ok-spans.spans in
    let rows = c.count_rows-rows.ensures.rows in
    let columns = c.count_columns-columns.ensures.columns in
    let laid = c.in_ok-layout.ensures.edges in
    let within : c.count_columns-columns.result < t.columns + 1 = omega (arith, columns) in
    let edge : c.index-before.result.now ≡ left (plan_of c.args.look.now.style t es) c.count_columns-columns.result = get_or_read c.in_ok-layout.layout.edges.items _ _ (omega (arith, laid.long, within)) c.index-before.ensures 0 ∙ laid.each c.count_columns-columns.result within in
    record {
      drawn = bytes-drawn t c.args.cfg.now c.in_ok-spans.spans _ _ rows columns c.in_ok-spans.ensures.fitting c.args.look.now.style c.args.look.now.alignments.now;
      width = width-of c.args.look.now.style t c.args.cfg.now c.in_ok-spans.spans _ _ _ _ _ rows columns c.in_ok-spans.ensures.fitting edge c.line_size-last.ensures c.in_ok-width.ensures;
    }
