use Rattle.tabled_grid.proofs.Common.{◌≡◌, Columns, arith, common_steps, first_along, grid_of, map_items, with_items}
use Rattle.tabled_grid.proofs.NestedRows.{HaveGrid, columns_cut}
use Rattle.tabled_grid.proofs.records.nested_rows.resizable.VecVecResizable.truncate_columns.Goals as goal

cut : (g : _) (c : goal.After-self-1 g) → HaveGrid (map_items (with_items c.args.self.now c.truncate_each.new.rows).items) (first_along Columns c.args.count (grid_of (map_items c.args.self.now.items)))
cut g c =
    let items : (with_items c.args.self.now c.truncate_each.new.rows).items ≡ c.truncate_each.new.rows = grind (arith, common_steps) in
    rw items (columns_cut c.args.count _ _ c.requires.within c.requires.well (rw c.deref_mut.ensures.value at c.truncate_each.ensures))

pub returns-clause-first : goal.returns-clause-first
returns-clause-first g c = (cut g c).is

pub returns-clause-well : goal.returns-clause-well
returns-clause-well g c = (cut g c).well
