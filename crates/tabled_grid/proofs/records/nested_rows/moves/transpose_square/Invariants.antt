use Rattle.tabled_grid.proofs.Common.{cell_in, grid_of, map_items}
use Rattle.tabled_grid.proofs.Diagonal.{HalfTransposed}
use Rattle.tabled_grid.proofs.Squares.{Square}
use Rattle.tabled_grid.proofs.records.nested_rows.moves.transpose_square.Given as goal

abbrev pub invariant-loop-i : goal.invariant-loop-i
invariant-loop-i g l =
    record {
      square : Square l.size (grid_of (map_items l.rows));
      turned : HalfTransposed (cell_in (grid_of (map_items l.fn.rows))) (cell_in (grid_of (map_items l.rows))) l.size l.i l.i;
    }

abbrev pub invariant-loop-j : goal.invariant-loop-j
invariant-loop-j g l =
    record {
      square : Square l.size (grid_of (map_items l.rows));
      turned : HalfTransposed (cell_in (grid_of (map_items l.fn.rows))) (cell_in (grid_of (map_items l.rows))) l.size l.i l.j;
    }
