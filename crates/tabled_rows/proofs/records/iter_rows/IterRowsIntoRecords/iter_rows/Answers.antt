use Rattle.tabled_rows.proofs.records.iter_rows.IterRowsIntoRecords.iter_rows.Goals as goal

pub returns-clause-asked : goal.returns-clause-asked
returns-clause-asked g c = λ may. rw (← c.self.view_is) at may
