use Rattle.tabled_grid.proofs.Common.{arith, refl}
use Rattle.tabled_grid.proofs.FlatStore.{row_read}
use Rattle.tabled_grid.proofs.records.vec_records.VecRecords.row.Goals as goal

pub returns : goal.returns
returns g c = rw (← c.self.view_is, c.deref.ensures.value) (row_read _ _ _ c.self.inside.full c.args.i _ _ (rw (← c.self.view_is) at c.requires) (omega arith) refl)
