use Rattle.tabled_grid.proofs.Through.{MovesThrough}
use Rattle.tabled_grid.proofs.records.gather.gather.Given as goal

abbrev pub invariant-loop-row : goal.invariant-loop-row
invariant-loop-row g l =
    let grid = g.R.GridStore.grid in
    record {
      well : g.R.GridStore.is_well_formed l.records;
      other : g.R.GridStore.is_well_formed l.gathered;
      moves : MovesThrough g.R.Cell.Blank.is_blank (g.P.Rearrange.places l.places) l.row 0 (grid l.fn.records) (grid l.records) (grid l.gathered);
    }

abbrev pub invariant-loop-col : goal.invariant-loop-col
invariant-loop-col g l =
    let grid = g.R.GridStore.grid in
    record {
      well : g.R.GridStore.is_well_formed l.records;
      other : g.R.GridStore.is_well_formed l.gathered;
      moves : MovesThrough g.R.Cell.Blank.is_blank (g.P.Rearrange.places l.places) l.row l.col (grid l.fn.records) (grid l.records) (grid l.gathered);
    }
