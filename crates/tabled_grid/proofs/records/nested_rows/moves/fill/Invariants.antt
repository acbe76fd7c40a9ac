use Rattle.tabled_grid.proofs.Common.{◌+◌, ◌≤◌, AddsBlanks, vec_capacity, vec_len}
use Rattle.tabled_grid.proofs.records.nested_rows.moves.fill.Given as goal

abbrev pub invariant-loop : goal.invariant-loop
invariant-loop g l = record {
  room : vec_len l.cells + l.count ≤ vec_capacity l.cells + l.counter;
  added : AddsBlanks g.T.Blank.is_blank l.fn.cells.items l.cells.items l.counter;
}
