use Rattle.tabled_grid.proofs.Common.{◌<◌, ◌∙◌, AllWithin-more_set, Vec, arith, vec_capacity, vec_len}
use Rattle.tabled_grid.proofs.OwnStore.{same_cells}
use Rattle.tabled_own_store.proofs.each_column.reserve_each.Goals as goal

pub returns-in_err-reserve-clause-cells : goal.returns-in_err-reserve-clause-cells
returns-in_err-reserve-clause-cells g c = same_cells _ _ c.column-item.result _ c.in_err-reserve.ensures.items ∙ c.loop-column.invariant.cells

pub loop-column-preserved : goal.loop-column-preserved
loop-column-preserved g c = record {
  cells = same_cells _ _ c.column-item.result _ c.in_ok-reserve.ensures.items ∙ c.loop-column.invariant.cells;
  room = AllWithin-more_set _ _ _ (omega arith) (λ (column : Vec g.row.T.Denot). vec_len column < vec_capacity column) c.loop-column.invariant.room (omega (arith, c.in_ok-reserve.ensures.ok));
}
