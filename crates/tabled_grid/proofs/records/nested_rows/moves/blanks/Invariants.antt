use Rattle.tabled_grid.proofs.Common.{AreBlanks}
use Rattle.tabled_grid.proofs.records.nested_rows.moves.blanks.Given as goal

abbrev pub invariant-loop : goal.invariant-loop
invariant-loop g l = AreBlanks g.T.Blank.is_blank l.counter l.cells.items
