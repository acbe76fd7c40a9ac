use Rattle.tabled_grid.proofs.Common.{◌≡◌, Changed, take}
use Rattle.tabled_grid.proofs.records.nested_rows.moves.truncate_each.Given as goal

abbrev pub invariant-loop-row : goal.invariant-loop-row
invariant-loop-row g l = Changed (λ old new. new ≡ take l.count old) l.fn.rows l.rows l.row-index
