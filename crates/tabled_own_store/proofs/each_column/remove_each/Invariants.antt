use Rattle.tabled_grid.proofs.Common.{◌≡◌, remove}
use Rattle.tabled_grid.proofs.OwnStore.{Changed}
use Rattle.tabled_own_store.proofs.each_column.remove_each.Given as goal

abbrev pub invariant-loop-column : goal.invariant-loop-column
invariant-loop-column g l = Changed (λ old new. new ≡ remove old l.i) l.fn.columns l.columns l.column-index
