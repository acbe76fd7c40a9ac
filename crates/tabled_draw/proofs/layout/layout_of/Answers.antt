use Rattle.tabled_draw.proofs.Common.{Columns, Rows, heights, map_grid, plan_of, rectangles, widths, ◌∙◌, ◌≡◌}
use Rattle.tabled_draw.proofs.Sizes.{edges-of, none-asked, own-long, sizes-is}
use Rattle.tabled_draw.proofs.layout.layout_of.Goals as goal

pub raise_all-requires-clause-widths : goal.raise_all-requires-clause-widths
raise_all-requires-clause-widths g c = none-asked Columns (map_grid g.R.Cell.CellText.text_of (g.R.GridStore.grid c.args.records.now)) (rectangles c.args.cfg.now) c.count_columns-columns.result _ c.count_columns-columns.ensures.columns (c.in_ok-widths.ensures.items_if_clones_equal (λ y e. e))

pub raise_all-requires-clause-heights : goal.raise_all-requires-clause-heights
raise_all-requires-clause-heights g c = none-asked Rows (map_grid g.R.Cell.CellText.text_of (g.R.GridStore.grid c.args.records.now)) (rectangles c.args.cfg.now) c.count_rows.result _ c.count_rows.ensures.rows (c.in_ok-heights.ensures.items_if_clones_equal (λ y e. e))

pub grow_all-requires-clause-long : goal.grow_all-requires-clause-long
grow_all-requires-clause-long g c = own-long Columns (map_grid g.R.Cell.CellText.text_of (g.R.GridStore.grid c.args.records.now)) (rectangles c.args.cfg.now) _ c.raise_all.ensures.widths

pub grow_all-requires-2-clause-long : goal.grow_all-requires-2-clause-long
grow_all-requires-2-clause-long g c = own-long Rows (map_grid g.R.Cell.CellText.text_of (g.R.GridStore.grid c.args.records.now)) (rectangles c.args.cfg.now) _ c.raise_all.ensures.heights

pub returns : goal.returns
returns g c =
    let t = map_grid g.R.Cell.CellText.text_of (g.R.GridStore.grid c.args.records.now) in
    let m = c.args.cfg.now in
    let wide : c.grow_all.new.sizes.items ≡ widths (plan_of c.args.style.now t (rectangles m)) = sizes-is Columns c.args.style.now t m c.raise_all.new.widths.items c.grow_all.new.sizes.items c.raise_all.ensures.widths c.in_ok-grow_all.ensures.grown in
    let high : c.grow_all-2.new.sizes.items ≡ heights (plan_of c.args.style.now t (rectangles m)) = sizes-is Rows c.args.style.now t m c.raise_all.new.heights.items c.grow_all-2.new.sizes.items c.raise_all.ensures.heights c.in_ok-grow_all-2.ensures.grown in
    record {
      widths = wide;
      edges = edges-of c.args.style.now t m c.deref.result.now c.in_ok-edges.edges.items (c.deref.ensures.value ∙ wide) c.in_ok-edges.ensures.long c.in_ok-edges.ensures.each;
      heights = high;
      above = c.raise_all.ensures.above;
      here = c.raise_all.ensures.here;
    }
