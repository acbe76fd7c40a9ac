use Rattle.tabled_grid.proofs.Common.{◌*◌, ◌-◌, chunks, take}
use Rattle.tabled_grid.proofs.FlatSpreads.{Spread}
use Rattle.tabled_grid.proofs.records.vec_records.moves.spread.Given as goal

abbrev pub invariant-loop-n : goal.invariant-loop-n
invariant-loop-n g l = Spread g.T.Blank.is_blank l.columns l.j l.many (chunks l.rows l.columns (take (l.rows * l.columns) l.fn.cells)) (l.rows - l.n) l.cells
