use Rattle.tabled_grid.proofs.Common.{arith, changed_all, changed_more, changed_next}
use Rattle.tabled_grid.proofs.records.nested_rows.moves.widen_each.Goals as goal

pub fill-requires : goal.fill-requires
fill-requires g c = rw (changed_next _ _ _ c.loop-row.row-index c.row-item.result c.loop-row.invariant) (c.in_ok-make_room.ensures.room _ _ (omega arith))

pub loop-row-preserved : goal.loop-row-preserved
loop-row-preserved g c =
    changed_more _ _ _ _ c.row-item.result _ (omega arith) c.loop-row.invariant
    (rw (← changed_next _ _ _ c.loop-row.row-index c.row-item.result c.loop-row.invariant) c.fill.ensures)

pub returns-clause-ok : goal.returns-clause-ok
returns-clause-ok g c = rw (← c.in_ok-make_room.ensures.cells) (changed_all _ _ _ _ (omega arith) c.loop-row.invariant)
