use Rattle.tabled_grid.proofs.Common.{◌<◌, ◌≡◌, arith, common_steps, grid_of, map_items, no_columns, with_items, without_column}
use Rattle.tabled_grid.proofs.NestedRows.{HaveGrid, each_long, have_grid}
use Rattle.tabled_grid.proofs.Resized.{IsEven-without_column, rowless-without_column}
use Rattle.tabled_grid.proofs.records.nested_rows.resizable.VecVecResizable.remove_column.Goals as goal

pub remove_each-requires : goal.remove_each-requires
remove_each-requires g c = rw c.deref_mut.ensures.value (each_long (λ n. c.args.j < n) _ c.args.self.now.items c.requires.well.wide c.requires.within)

removed : (g : _) (c : goal.After-self-1 g) → HaveGrid (map_items (with_items c.args.self.now c.remove_each.new.rows).items) (without_column (grid_of (map_items c.args.self.now.items)) c.args.j)
removed g c =
    let items : (with_items c.args.self.now c.remove_each.new.rows).items ≡ c.remove_each.new.rows = grind (arith, common_steps) in
    rw items (have_grid _ _ (IsEven-without_column _ c.requires.well c.args.j c.requires.within) (rowless-without_column (grid_of (map_items c.args.self.now.items)) c.args.j (no_columns (map_items c.args.self.now.items))) (rw c.deref_mut.ensures.value at c.remove_each.ensures))

pub returns-clause-removed : goal.returns-clause-removed
returns-clause-removed g c = (removed g c).is

pub returns-clause-well : goal.returns-clause-well
returns-clause-well g c = (removed g c).well
