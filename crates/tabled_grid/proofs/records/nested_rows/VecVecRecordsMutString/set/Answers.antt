use Rattle.tabled_grid.proofs.OwnStore.{texts_written}
use Rattle.tabled_grid.proofs.records.nested_rows.VecVecRecordsMutString.set.Goals as goal

pub returns-clause-ok : goal.returns-clause-ok
returns-clause-ok g c = record { cell = c.in_ok-from_string.field-0; has = c.in_ok-from_string.ensures; is = c.write.ensures }

pub returns-clause-texts : goal.returns-clause-texts
returns-clause-texts g c = texts_written _ _ _ _ _ (returns-clause-ok g c)
