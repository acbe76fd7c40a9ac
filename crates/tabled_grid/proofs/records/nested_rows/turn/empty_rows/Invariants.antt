use Rattle.tabled_grid.proofs.Common.{[], ◌+◌, ◌≡◌, ◌≤◌, All, Vec, map_items, replicate, vec_capacity, vec_len}
use Rattle.tabled_grid.proofs.records.nested_rows.turn.empty_rows.Given as goal

abbrev pub invariant-loop : goal.invariant-loop
invariant-loop g l = record {
  empty : map_items l.rows.items ≡ replicate l.counter [];
  room : All (λ (row : Vec g.row.T.Denot). vec_len row + l.room ≤ vec_capacity row) l.rows.items;
}
