use Rattle.tabled_grid.proofs.Common.{◌≡◌, chunks, joined, swap}
use Rattle.tabled_grid.proofs.FlatColumns.{changed}
use Rattle.tabled_grid.proofs.records.vec_records.moves.swap_each.Given as goal

abbrev pub invariant-loop-i : goal.invariant-loop-i
invariant-loop-i g l = l.cells ≡ joined (changed (λ row. swap row l.j l.k) (chunks l.rows l.columns l.fn.cells) l.i)
