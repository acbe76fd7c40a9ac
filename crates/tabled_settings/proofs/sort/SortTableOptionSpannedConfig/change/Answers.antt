use Rattle.std.proofs.Common.{OnOk}
use Rattle.tabled_settings.proofs.Common.{◌∙◌, List, Rearranges, Rows, ap, kept_lines, map_grid, subst, sym, ℕ}
use Rattle.tabled_settings.proofs.SortedRows.{sorted-distinct}
use Rattle.tabled_settings.specs.Arranged.{AreDistinct}
use Rattle.tabled_settings.specs.Sorted.{row_order, sorted_rows, text_order}
use Rattle.tabled_settings.proofs.sort.SortTableOptionSpannedConfig.change.Goals as goal

pub arrange-requires-clause-once : goal.arrange-requires-clause-once
arrange-requires-clause-once g c =
    let s = c.args.self in
    let texts = map_grid g.R.Cell.CellText.text_of (g.R.GridStore.grid c.args.records.now) in
    subst (λ (l : List ℕ). AreDistinct l texts.rows) (sym c.in_ok-rows.ensures) (sorted-distinct s.from (row_order (text_order s.keys s.descending) texts c.column_index-column.result) texts.rows)

pub returns-clause-ok : goal.returns-clause-ok
returns-clause-ok g c =
    let s = c.args.self in
    let grid = g.R.GridStore.grid c.args.records.now in
    let texts = map_grid g.R.Cell.CellText.text_of grid in
    let is = c.in_ok-rows.ensures ∙ ap (λ (j : ℕ). sorted_rows s.from (text_order s.keys s.descending) j texts) c.column_index-column.ensures in
    subst (λ (l : List ℕ). OnOk c.arrange.result (Rearranges (kept_lines Rows l grid.rows grid.columns) grid c.args.cfg.now (g.R.GridStore.grid c.arrange.new.records) c.arrange.new.cfg)) is c.arrange.ensures.ok
