use Rattle.tabled_grid.proofs.Common.{◌≡◌, swap}
use Rattle.tabled_grid.proofs.OwnStore.{Changed}
use Rattle.tabled_own_store.proofs.each_column.swap_each.Given as goal

abbrev pub invariant-loop-column : goal.invariant-loop-column
invariant-loop-column g l = Changed (λ old new. new ≡ swap old l.i l.k) l.fn.columns l.columns l.column-index
