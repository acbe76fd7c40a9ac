use Rattle.std.proofs.Common.{length}
use Rattle.tabled_settings.proofs.Common.{Rows}
use Rattle.tabled_settings.proofs.RowByRow.{Underway}
use Rattle.tabled_settings.specs.Arranged.{SwapsLines, after_swaps}
use Rattle.tabled_settings.proofs.lines.swap_forward.Given as goal

abbrev pub invariant-loop-k : goal.invariant-loop-k
invariant-loop-k g l =
    let grid = g.R.GridStore.grid in
    record {
      well : g.R.GridStore.is_well_formed l.records;
      swapped : SwapsLines Rows l.swaps l.k (grid l.fn.records) (grid l.records);
    }

abbrev pub invariant-loop-row : goal.invariant-loop-row
invariant-loop-row g l =
    let grid = g.R.GridStore.grid in
    record {
      well : g.R.GridStore.is_well_formed l.records;
      rows : Underway (after_swaps l.swaps) (length l.swaps) l.row 0 (grid l.fn.records) (grid l.records);
    }

abbrev pub invariant-loop-j : goal.invariant-loop-j
invariant-loop-j g l =
    let grid = g.R.GridStore.grid in
    record {
      well : g.R.GridStore.is_well_formed l.records;
      rows : Underway (after_swaps l.swaps) (length l.swaps) l.row l.j (grid l.fn.records) (grid l.records);
    }
