use Rattle.tabled_grid.proofs.Common.{refl}
use Rattle.tabled_grid.proofs.FlatStore.{cells_swapped}
use Rattle.tabled_grid.proofs.records.vec_records.resizable.VecRecordsResizable.swap.Goals as goal

pub returns-clause-swapped : goal.returns-clause-swapped
returns-clause-swapped g c = rw (← c.self.view_is, c.swap.ensures.items) (cells_swapped _ _ _ c.self.inside.full c.args.p c.args.q _ _ (rw (← c.self.view_is) at c.requires.p_inside) (rw (← c.self.view_is) at c.requires.q_inside) refl refl)
