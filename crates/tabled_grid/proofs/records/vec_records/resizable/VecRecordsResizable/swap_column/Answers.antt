use Rattle.tabled_grid.proofs.Common.{◌∙◌, ◌≡◌, arith, common_steps, with_items}
use Rattle.tabled_grid.proofs.FlatStore.{columns_swapped}
use Rattle.tabled_grid.proofs.records.vec_records.resizable.VecRecordsResizable.swap_column.Goals as goal

pub returns-clause-swapped : goal.returns-clause-swapped
returns-clause-swapped g c =
    let items : (with_items c.self.inside.cells c.swap_each.new.cells).items ≡ c.swap_each.new.cells = grind (arith, common_steps) in
    rw (← c.self.view_is) (columns_swapped _ _ _ c.self.inside.full c.args.j c.args.k _ (items ∙ rw c.deref_mut.ensures.value at c.swap_each.ensures))
