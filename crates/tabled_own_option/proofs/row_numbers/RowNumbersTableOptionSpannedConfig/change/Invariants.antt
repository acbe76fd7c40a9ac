use Rattle.tabled_own_option.proofs.Numbered.{Numbered}
use Rattle.tabled_own_option.proofs.row_numbers.RowNumbersTableOptionSpannedConfig.change.Given as goal

abbrev pub invariant-loop-row : goal.invariant-loop-row
invariant-loop-row g l =
    let grid = g.R.GridStore.grid in
    record {
      well : g.R.GridStore.is_well_formed l.records;
      numbered : Numbered g.R.Cell.CellText.text_of l.row (grid l.fn.records) (grid l.records);
    }
