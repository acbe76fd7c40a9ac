use Rattle.tabled_grid.proofs.Common.{◌+◌, ◌≡◌, ◌≤◌, All, AreWide, Vec, into_iter_items, length, map_items, transposed_rows, vec_capacity, vec_len}
use Rattle.tabled_grid.proofs.Turned.{with_rows_behind}
use Rattle.tabled_grid.proofs.records.nested_rows.turn.turn_rows.Given as goal

abbrev pub invariant-loop-row : goal.invariant-loop-row
invariant-loop-row g l = record {
  wide : AreWide l.columns (map_items (into_iter_items l.row-iterator));
  tall : length l.rows.items ≡ l.columns;
  turned : transposed_rows l.columns (map_items l.fn.rows.items) ≡ with_rows_behind (map_items l.rows.items) (transposed_rows l.columns (map_items (into_iter_items l.row-iterator)));
  room : All (λ (row : Vec g.row.T.Denot). vec_len row + length (into_iter_items l.row-iterator) ≤ vec_capacity row) l.rows.items;
}
