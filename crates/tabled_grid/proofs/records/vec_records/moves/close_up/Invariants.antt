use Rattle.tabled_grid.proofs.Common.{chunks}
use Rattle.tabled_grid.proofs.FlatColumns.{ClosedUp}
use Rattle.tabled_grid.proofs.records.vec_records.moves.close_up.Given as goal

abbrev pub invariant-loop-i : goal.invariant-loop-i
invariant-loop-i g l = ClosedUp l.columns l.j l.count (chunks l.rows l.columns l.fn.cells) l.i l.cells
