use Rattle.tabled_grid.proofs.Common.{◌<◌, ◌≡◌, AllWithin, Vec, map_items, vec_capacity, vec_len}
use Rattle.tabled_own_store.proofs.each_column.reserve_each.Given as goal

abbrev pub invariant-loop-column : goal.invariant-loop-column
invariant-loop-column g l = record {
  cells : map_items l.columns ≡ map_items l.fn.columns;
  room : AllWithin (λ (column : Vec g.row.T.Denot). vec_len column < vec_capacity column) l.columns 0 l.column-index;
}
