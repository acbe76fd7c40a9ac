use Rattle.std.proofs.Common.{IfOk, ap, map, subst, ◌∙◌, ◌≡◌}
use Rattle.tabled_settings.proofs.Common.{IsEven-map_grid, List, map_grid, ℕ}
use Rattle.tabled_settings.proofs.RowKeys.{sorted-by-column}
use Rattle.tabled_settings.specs.Sorted.{text_order}
use Rattle.tabled_settings.proofs.sort.rows.sorted_rows.Goals as goal

pub returns : goal.returns
returns g c =
    let grid = g.R.GridStore.grid c.args.records.now in
    let text_of = g.R.Cell.CellText.text_of in
    let texts = c.as_slice.result.now in
    let held = ap (map (λ t. t.now)) c.as_slice.ensures.value ∙ c.in_ok-texts.ensures in
    subst (λ (l : List ℕ). IfOk c.sorted_from.result (λ rows. rows.items ≡ l))
    (sorted-by-column (map_grid text_of grid) (IsEven-map_grid text_of grid (g.R.GridStore.even _ c.requires.well)) c.args.column c.args.from (text_order c.args.keys c.args.descending) texts held)
    c.sorted_from.ensures
