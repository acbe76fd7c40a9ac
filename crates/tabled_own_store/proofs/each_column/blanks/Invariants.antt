use Rattle.tabled_grid.proofs.Common.{AreBlanks}
use Rattle.tabled_own_store.proofs.each_column.blanks.Given as goal

abbrev pub invariant-loop : goal.invariant-loop
invariant-loop g l = AreBlanks g.T.Blank.is_blank l.counter l.column.items
