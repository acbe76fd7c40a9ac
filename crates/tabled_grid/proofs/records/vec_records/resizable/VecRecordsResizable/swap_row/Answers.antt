use Rattle.tabled_grid.proofs.Common.{◌∙◌, ◌≡◌, arith, common_steps, with_items}
use Rattle.tabled_grid.proofs.FlatStore.{rows_swapped}
use Rattle.tabled_grid.proofs.records.vec_records.resizable.VecRecordsResizable.swap_row.Goals as goal

pub returns-clause-swapped : goal.returns-clause-swapped
returns-clause-swapped g c =
    let items : (with_items c.self.inside.cells c.swap_runs.new.cells).items ≡ c.swap_runs.new.cells = grind (arith, common_steps) in
    rw (← c.self.view_is)
    (rows_swapped _ _ _ c.self.inside.full c.args.i c.args.k _ _ _ (rw (← c.self.view_is) at c.requires.i_within) (rw (← c.self.view_is) at c.requires.k_within) c.if-i-k.false c.min.ensures c.max.ensures (items ∙ rw c.deref_mut.ensures.value at c.swap_runs.ensures))
