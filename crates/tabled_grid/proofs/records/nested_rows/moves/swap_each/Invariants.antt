use Rattle.tabled_grid.proofs.Common.{◌≡◌, Changed, swap}
use Rattle.tabled_grid.proofs.records.nested_rows.moves.swap_each.Given as goal

abbrev pub invariant-loop-row : goal.invariant-loop-row
invariant-loop-row g l = Changed (λ old new. new ≡ swap old l.j l.k) l.fn.rows l.rows l.row-index
