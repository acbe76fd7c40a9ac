use Rattle.tabled_grid.proofs.Common.{◌≡◌, Changed, remove}
use Rattle.tabled_grid.proofs.records.nested_rows.moves.remove_each.Given as goal

abbrev pub invariant-loop-row : goal.invariant-loop-row
invariant-loop-row g l = Changed (λ old new. new ≡ remove old l.j) l.fn.rows l.rows l.row-index
