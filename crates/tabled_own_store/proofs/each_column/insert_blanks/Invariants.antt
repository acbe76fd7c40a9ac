use Rattle.tabled_grid.proofs.Common.{InsertsBlank}
use Rattle.tabled_grid.proofs.OwnStore.{Changed}
use Rattle.tabled_own_store.proofs.each_column.insert_blanks.Given as goal

abbrev pub invariant-loop-column : goal.invariant-loop-column
invariant-loop-column g l = Changed (InsertsBlank g.T.Blank.is_blank l.i) l.initial.columns l.columns l.column-index
