use Rattle.tabled_grid.proofs.Common.{◌≡◌, joined, map_items}
use Rattle.tabled_grid.proofs.records.vec_records.moves.join.Given as goal

abbrev pub invariant-loop-row : goal.invariant-loop-row
invariant-loop-row g l = l.cells.items ≡ joined (map_items l.yielded)
