use Rattle.std.proofs.Common.{◌≡◌, ◌<◌}
use Rattle.tabled_own_light.proofs.RowNumbersTableOptionSpannedConfig.change.Given as goal

abbrev pub invariant-loop-row : goal.invariant-loop-row
invariant-loop-row g l =
    let grid = g.R.GridStore.grid l.records in
    record {
      well : g.R.GridStore.is_well_formed l.records;
      rows : grid.rows ≡ l.rows;
      columns : 0 < l.rows → 0 < grid.columns;
    }
