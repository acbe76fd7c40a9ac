use Rattle.tabled_grid.proofs.Grids.{texts_written}
use Rattle.tabled_grid.proofs.records.vec_records.VecRecordsRecordsMutRefStr.set.Goals as goal

pub returns-clause-ok : goal.returns-clause-ok
returns-clause-ok g c = record { cell = c.in_ok-from_text.field-0; has = c.in_ok-from_text.ensures; is = c.write.ensures }

pub returns-clause-texts : goal.returns-clause-texts
returns-clause-texts g c = texts_written _ _ _ _ _ (returns-clause-ok g c)
