use Rattle.tabled_grid.proofs.Common.{arith}
use Rattle.tabled_grid.proofs.OwnStore.{changed_all, changed_more, changed_next, same_lens}
use Rattle.tabled_own_store.proofs.each_column.insert_blanks.Goals as goal

pub insert-requires : goal.insert-requires
insert-requires g c = rw (changed_next _ _ _ c.loop-column.column-index c.column-item.result c.loop-column.invariant) (rw (same_lens _ _ c.loop-column.column-index c.column-item.result c.in_ok-reserve_each.ensures.cells) (c.requires c.loop-column.column-index c.column-item.result (omega arith)))

pub unwrap-requires : goal.unwrap-requires
unwrap-requires g c = c.insert.ensures.succeeds (rw (changed_next _ _ _ c.loop-column.column-index c.column-item.result c.loop-column.invariant) (c.in_ok-reserve_each.ensures.room _ _ (omega arith)))

pub loop-column-preserved : goal.loop-column-preserved
loop-column-preserved g c =
    changed_more _ _ _ _ c.column-item.result _ (omega arith) c.loop-column.invariant
    (rw (← changed_next _ _ _ c.loop-column.column-index c.column-item.result c.loop-column.invariant) (record { cell = c.blank.result; blank = c.blank.ensures; is = rw c.unwrap.ensures at c.insert.ensures.items }))

pub returns-clause-ok : goal.returns-clause-ok
returns-clause-ok g c = rw (← c.in_ok-reserve_each.ensures.cells) (changed_all _ _ _ _ (omega arith) c.loop-column.invariant)
