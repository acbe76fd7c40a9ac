use Rattle.tabled_grid.proofs.Common.{◌*◌, ◌-◌, ◌∙◌, ◌≡◌, ap, arith, common_steps, take, with_items}
use Rattle.tabled_grid.proofs.FlatStore.{column_removed}
use Rattle.tabled_grid.proofs.records.vec_records.resizable.VecRecordsResizable.remove_column.Goals as goal

pub returns-clause-removed : goal.returns-clause-removed
returns-clause-removed g c =
    let items : (with_items c.self.inside.cells c.close_up.new.cells).items ≡ c.close_up.new.cells = grind (arith, common_steps) in
    rw (← c.self.view_is)
    (column_removed _ _ _ c.self.inside.full c.args.j _ (rw (← c.self.view_is) at c.requires.within)
    (c.truncate.ensures.items ∙ ap (take (c.self.inside.rows * (c.self.inside.columns - 1))) items ∙ rw c.deref_mut.ensures.value at c.close_up.ensures))
