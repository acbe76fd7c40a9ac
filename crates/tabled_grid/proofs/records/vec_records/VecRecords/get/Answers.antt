use Rattle.tabled_grid.proofs.Common.{refl, slice_get_read}
use Rattle.tabled_grid.proofs.FlatStore.{cell_read, cell_within}
use Rattle.tabled_grid.proofs.records.vec_records.VecRecords.get.Goals as goal

pub returns : goal.returns
returns g c =
    rw (← c.self.view_is)
    (cell_read _ _ _ c.self.inside.full c.args.pos _ _ (rw (← c.self.view_is) at c.requires) refl
    (slice_get_read _ _ _ _ refl (cell_within _ _ _ c.self.inside.full c.args.pos _ (rw (← c.self.view_is) at c.requires) refl) c.index.ensures))
