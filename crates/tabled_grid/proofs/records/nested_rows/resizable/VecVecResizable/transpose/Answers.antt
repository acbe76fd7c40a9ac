use Rattle.tabled_grid.proofs.Common.{arith}
use Rattle.tabled_grid.proofs.Turned.{have_turned}
use Rattle.tabled_grid.proofs.records.nested_rows.resizable.VecVecResizable.transpose.Goals as goal

pub returns-clause-well : goal.returns-clause-well
returns-clause-well g c = (have_turned _ _ c.requires.well (omega arith) (rw c.count_columns-columns.ensures.columns at c.in_ok-turn_rows.ensures.ok)).well

pub returns-clause-ok : goal.returns-clause-ok
returns-clause-ok g c = (have_turned _ _ c.requires.well (omega arith) (rw c.count_columns-columns.ensures.columns at c.in_ok-turn_rows.ensures.ok)).is
