use Rattle.tabled_grid.proofs.Squares.{HalfTransposedIn, Square}
use Rattle.tabled_grid.proofs.records.resizable.Resizable.transpose.Given as goal

abbrev pub invariant-loop-i : goal.invariant-loop-i
invariant-loop-i g l =
    let grid = g.Self.GridStore.grid in
    record {
      well : g.Self.GridStore.is_well_formed l.self;
      square : Square l.size (grid l.self);
      turned : HalfTransposedIn g.Self.Cell.Blank.is_blank l.size l.i l.i (grid l.fn.self) (grid l.self);
    }

abbrev pub invariant-loop-j : goal.invariant-loop-j
invariant-loop-j g l =
    let grid = g.Self.GridStore.grid in
    record {
      well : g.Self.GridStore.is_well_formed l.self;
      square : Square l.size (grid l.self);
      turned : HalfTransposedIn g.Self.Cell.Blank.is_blank l.size l.i l.j (grid l.fn.self) (grid l.self);
    }
