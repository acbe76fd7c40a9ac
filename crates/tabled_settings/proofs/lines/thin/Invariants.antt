use Rattle.tabled_settings.proofs.Common.{◌≡◌, ◌≤◌, BringsLines, Rows, is_marked, left_over, length}
use Rattle.tabled_settings.proofs.Dropped.{thinned}
use Rattle.tabled_settings.proofs.RowByRow.{Underway}
use Rattle.tabled_settings.proofs.lines.thin.Given as goal

abbrev pub invariant-loop-i : goal.invariant-loop-i
invariant-loop-i g l =
    let grid = g.R.GridStore.grid in
    record {
      well : g.R.GridStore.is_well_formed l.records;
      brings : BringsLines Rows (left_over (is_marked l.gone) (length l.gone)) l.kept (grid l.fn.records) (grid l.records);
      many : l.kept ≡ length (left_over (is_marked l.gone) l.i);
      few : l.kept ≤ l.i;
    }

abbrev pub invariant-loop-row : goal.invariant-loop-row
invariant-loop-row g l =
    let grid = g.R.GridStore.grid in
    record {
      well : g.R.GridStore.is_well_formed l.records;
      rows : Underway (thinned (is_marked l.gone)) (length l.gone) l.row 0 (grid l.fn.records) (grid l.records);
    }

abbrev pub invariant-loop-j : goal.invariant-loop-j
invariant-loop-j g l =
    let grid = g.R.GridStore.grid in
    record {
      well : g.R.GridStore.is_well_formed l.records;
      rows : Underway (thinned (is_marked l.gone)) (length l.gone) l.row l.j (grid l.fn.records) (grid l.records);
      many : l.kept ≡ length (left_over (is_marked l.gone) l.j);
      few : l.kept ≤ l.j;
    }
