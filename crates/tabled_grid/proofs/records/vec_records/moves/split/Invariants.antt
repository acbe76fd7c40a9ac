use Rattle.tabled_grid.proofs.Common.{◌*◌, ◌++◌, ◌-◌, ◌≡◌, chunks, into_iter_items, length, map_items}
use Rattle.tabled_grid.proofs.records.vec_records.moves.split.Given as goal

abbrev pub invariant-loop : goal.invariant-loop
invariant-loop g l = record {
  size : length (into_iter_items l.left) ≡ (l.rows - l.counter) * l.columns;
  whole : chunks l.rows l.columns l.fn.cells.items ≡ map_items l.nested.items ++ chunks (l.rows - l.counter) l.columns (into_iter_items l.left);
}
