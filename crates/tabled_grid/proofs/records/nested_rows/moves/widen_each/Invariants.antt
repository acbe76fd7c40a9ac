use Rattle.tabled_grid.proofs.Common.{AddsBlanks, Changed, List}
use Rattle.tabled_grid.proofs.records.nested_rows.moves.widen_each.Given as goal

abbrev pub invariant-loop-row : goal.invariant-loop-row
invariant-loop-row g l = Changed (λ (row wide : List g.row.T.Denot). AddsBlanks g.T.Blank.is_blank row wide l.many) l.initial.rows l.rows l.row-index
