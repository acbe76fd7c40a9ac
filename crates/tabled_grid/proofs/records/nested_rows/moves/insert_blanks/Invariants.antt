use Rattle.tabled_grid.proofs.Common.{Changed, InsertsBlank}
use Rattle.tabled_grid.proofs.records.nested_rows.moves.insert_blanks.Given as goal

abbrev pub invariant-loop-row : goal.invariant-loop-row
invariant-loop-row g l = Changed (InsertsBlank g.T.Blank.is_blank l.j) l.initial.rows l.rows l.row-index
