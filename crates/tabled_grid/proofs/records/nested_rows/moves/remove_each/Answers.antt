use Rattle.tabled_grid.proofs.Common.{AllZip-map, arith, changed_all, changed_more, changed_next}
use Rattle.tabled_grid.proofs.records.nested_rows.moves.remove_each.Goals as goal

pub remove-cell-requires : goal.remove-cell-requires
remove-cell-requires g c = rw (changed_next _ _ _ c.loop-row.row-index c.row-item.result c.loop-row.invariant) (c.requires _ _ (omega arith))

pub loop-row-preserved : goal.loop-row-preserved
loop-row-preserved g c =
    changed_more _ _ _ _ c.row-item.result _ (omega arith) c.loop-row.invariant
    (rw (← changed_next _ _ _ c.loop-row.row-index c.row-item.result c.loop-row.invariant) c.remove-cell.ensures.items)

pub returns : goal.returns
returns g c = AllZip-map _ _ _ (changed_all _ _ _ _ (omega arith) c.loop-row.invariant)
