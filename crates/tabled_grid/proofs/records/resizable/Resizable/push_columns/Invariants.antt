use Rattle.tabled_grid.proofs.Common.{AddsColumns}
use Rattle.tabled_grid.proofs.records.resizable.Resizable.push_columns.Given as goal

abbrev pub invariant-loop : goal.invariant-loop
invariant-loop g l =
    let grid = g.Self.GridStore.grid in
    record {
      well : g.Self.GridStore.is_well_formed l.self;
      adds : AddsColumns g.Self.Cell.Blank.is_blank l.counter (grid l.fn.self) (grid l.self);
    }
