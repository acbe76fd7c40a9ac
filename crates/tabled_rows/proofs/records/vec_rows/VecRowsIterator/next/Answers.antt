use Rattle.tabled_rows.proofs.Listed.{drop-get}
use Rattle.tabled_rows.proofs.records.vec_rows.VecRowsIterator.next.Goals as goal

pub returns-clause-steps : goal.returns-clause-steps
returns-clause-steps g c = drop-get _ c.args.self.now.row _ c.row-row.ensures
