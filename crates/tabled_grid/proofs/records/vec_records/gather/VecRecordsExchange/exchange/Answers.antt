use Rattle.tabled_grid.proofs.Common.{refl, slice_get_read}
use Rattle.tabled_grid.proofs.FlatStore.{cell_read, cell_within, cell_written}
use Rattle.tabled_grid.proofs.records.vec_records.gather.VecRecordsExchange.exchange.Goals as goal

pub returns-clause-exchanged : goal.returns-clause-exchanged
returns-clause-exchanged g c =
    let here = (rw (← c.self.view_is) at c.requires.here) in
    let there = (rw (← c.other.view_is) at c.requires.there) in
    record {
      here = c.index_mut.result.now;
      there = c.index_mut-2.result.now;
      was_here = rw (← c.self.view_is) (cell_read _ _ _ c.self.inside.full c.args.pos _ _ here refl (slice_get_read _ _ _ _ refl (cell_within _ _ _ c.self.inside.full c.args.pos _ here refl) c.index_mut.ensures.value));
      was_there = rw (← c.other.view_is) (cell_read _ _ _ c.other.inside.full c.args.at _ _ there refl (slice_get_read _ _ _ _ refl (cell_within _ _ _ c.other.inside.full c.args.at _ there refl) c.index_mut-2.ensures.value));
      is_here = rw (← c.self.view_is, c.swap.ensures.x_after) (cell_written _ _ _ c.self.inside.full c.args.pos _ c.index_mut-2.result.now here refl);
      is_there = rw (← c.other.view_is, c.swap.ensures.y_after) (cell_written _ _ _ c.other.inside.full c.args.at _ c.index_mut.result.now there refl);
    }
