use Rattle.tabled_table.proofs.table.Table.modify.Goals as goal

pub returns-clause-err : goal.returns-clause-err
returns-clause-err g c = rw c.list.ensures at c.with.ensures.err
