use Rattle.tabled_grid.proofs.Common.{◌+◌, ◌∙◌, ◌≤◌, AllWithin-more_set, Vec, arith, same_cells, vec_capacity, vec_len}
use Rattle.tabled_grid.proofs.records.nested_rows.moves.make_room.Goals as goal

pub returns-in_err-reserve-clause-cells : goal.returns-in_err-reserve-clause-cells
returns-in_err-reserve-clause-cells g c = same_cells _ _ c.row-item.result _ c.in_err-reserve.ensures.items ∙ c.loop-row.invariant.cells

pub loop-row-preserved : goal.loop-row-preserved
loop-row-preserved g c = record {
  cells = same_cells _ _ c.row-item.result _ c.in_ok-reserve.ensures.items ∙ c.loop-row.invariant.cells;
  room = AllWithin-more_set _ _ _ (omega arith) (λ (row : Vec g.row.T.Denot). vec_len row + c.args.many ≤ vec_capacity row) c.loop-row.invariant.room (omega (arith, c.in_ok-reserve.ensures.ok));
}
