use Rattle.tabled_grid.proofs.Common.{◌+◌, ◌≡◌, ◌≤◌, AllWithin, Vec, map_items, vec_capacity, vec_len}
use Rattle.tabled_grid.proofs.records.nested_rows.moves.make_room.Given as goal

abbrev pub invariant-loop-row : goal.invariant-loop-row
invariant-loop-row g l = record {
  cells : map_items l.rows ≡ map_items l.fn.rows;
  room : AllWithin (λ (row : Vec g.row.T.Denot). vec_len row + l.many ≤ vec_capacity row) l.rows 0 l.row-index;
}
