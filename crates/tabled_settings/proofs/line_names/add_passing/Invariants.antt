use Rattle.tabled_settings.proofs.Common.{◌++◌, ◌-◌, ◌≡◌, ◌≤◌, filter, map_grid, range_with_len}
use Rattle.tabled_settings.specs.Named.{row_passes, text_passes}
use Rattle.tabled_settings.proofs.line_names.add_passing.Given as goal

abbrev pub invariant-loop-row : goal.invariant-loop-row
invariant-loop-row g l =
    let grid = g.R.GridStore.grid l.fn.records in
    record {
      items : l.found.items ≡ l.fn.found.items ++ filter (row_passes (text_passes l.test) l.columns (map_grid g.R.Cell.CellText.text_of grid)) (range_with_len 1 (l.row - 1));
      few : l.row - 1 ≤ grid.rows - 1;
    }
