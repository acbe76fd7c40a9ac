use Rattle.tabled_grid.proofs.Common.{refl}
use Rattle.tabled_grid.proofs.FlatStore.{cell_written}
use Rattle.tabled_grid.proofs.records.vec_records.VecRecords.write.Goals as goal

pub returns : goal.returns
returns g c = rw (← c.self.view_is) (cell_written _ _ _ c.self.inside.full c.args.pos _ c.args.cell (rw (← c.self.view_is) at c.requires) refl)
