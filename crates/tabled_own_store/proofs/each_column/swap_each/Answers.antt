use Rattle.tabled_grid.proofs.Common.{AllZip-map, arith}
use Rattle.tabled_grid.proofs.OwnStore.{changed_all, changed_more, changed_next}
use Rattle.tabled_own_store.proofs.each_column.swap_each.Goals as goal

pub swap-requires-clause-i_in_bounds : goal.swap-requires-clause-i_in_bounds
swap-requires-clause-i_in_bounds g c = rw (changed_next _ _ _ c.loop-column.column-index c.column-item.result c.loop-column.invariant) (c.requires.i_within _ _ (omega arith))

pub swap-requires-clause-j_in_bounds : goal.swap-requires-clause-j_in_bounds
swap-requires-clause-j_in_bounds g c = rw (changed_next _ _ _ c.loop-column.column-index c.column-item.result c.loop-column.invariant) (c.requires.k_within _ _ (omega arith))

pub loop-column-preserved : goal.loop-column-preserved
loop-column-preserved g c =
    changed_more _ _ _ _ c.column-item.result _ (omega arith) c.loop-column.invariant
    (rw (← changed_next _ _ _ c.loop-column.column-index c.column-item.result c.loop-column.invariant) c.swap.ensures.items)

pub returns : goal.returns
returns g c = AllZip-map _ _ _ (changed_all _ _ _ _ (omega arith) c.loop-column.invariant)
