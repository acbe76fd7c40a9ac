use Rattle.tabled_grid.proofs.Common.{◌++◌, ◌≡◌, into_iter_items, length}
use Rattle.tabled_grid.proofs.records.vec_records.moves.take_row.Given as goal

abbrev pub invariant-loop : goal.invariant-loop
invariant-loop g l = record {
  whole : into_iter_items l.fn.left ≡ l.row.items ++ into_iter_items l.left;
  many : length l.row.items ≡ l.counter;
}
