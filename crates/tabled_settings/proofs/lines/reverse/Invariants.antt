use Rattle.tabled_settings.proofs.Common.{ReversesEnds, Rows}
use Rattle.tabled_settings.proofs.Reversed.{ends}
use Rattle.tabled_settings.proofs.RowByRow.{Underway}
use Rattle.tabled_settings.proofs.lines.reverse.Given as goal

abbrev pub invariant-loop-k : goal.invariant-loop-k
invariant-loop-k g l =
    let grid = g.R.GridStore.grid in
    record {
      well : g.R.GridStore.is_well_formed l.records;
      ends : ReversesEnds Rows l.start l.end l.k (grid l.fn.records) (grid l.records);
    }

abbrev pub invariant-loop-row : goal.invariant-loop-row
invariant-loop-row g l =
    let grid = g.R.GridStore.grid in
    record {
      well : g.R.GridStore.is_well_formed l.records;
      rows : Underway (ends l.start l.end) l.swaps l.row 0 (grid l.fn.records) (grid l.records);
    }

abbrev pub invariant-loop-j : goal.invariant-loop-j
invariant-loop-j g l =
    let grid = g.R.GridStore.grid in
    record {
      well : g.R.GridStore.is_well_formed l.records;
      rows : Underway (ends l.start l.end) l.swaps l.row l.j (grid l.fn.records) (grid l.records);
    }
