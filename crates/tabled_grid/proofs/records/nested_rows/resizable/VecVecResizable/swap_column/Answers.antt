use Rattle.tabled_grid.proofs.Common.{◌<◌, ◌≡◌, arith, common_steps, grid_of, map_items, no_columns, with_columns_swapped, with_items}
use Rattle.tabled_grid.proofs.NestedRows.{HaveGrid, each_long, have_grid}
use Rattle.tabled_grid.proofs.Resized.{IsEven-with_columns_swapped}
use Rattle.tabled_grid.proofs.records.nested_rows.resizable.VecVecResizable.swap_column.Goals as goal

pub swap_each-requires-clause-j_within : goal.swap_each-requires-clause-j_within
swap_each-requires-clause-j_within g c = rw c.deref_mut.ensures.value (each_long (λ n. c.args.j < n) _ c.args.self.now.items c.requires.well.wide c.requires.j_within)

pub swap_each-requires-clause-k_within : goal.swap_each-requires-clause-k_within
swap_each-requires-clause-k_within g c = rw c.deref_mut.ensures.value (each_long (λ n. c.args.k < n) _ c.args.self.now.items c.requires.well.wide c.requires.k_within)

swapped : (g : _) (c : goal.After-self-1 g) → HaveGrid (map_items (with_items c.args.self.now c.swap_each.new.rows).items) (with_columns_swapped (grid_of (map_items c.args.self.now.items)) c.args.j c.args.k)
swapped g c =
    let items : (with_items c.args.self.now c.swap_each.new.rows).items ≡ c.swap_each.new.rows = grind (arith, common_steps) in
    rw items (have_grid _ _ (IsEven-with_columns_swapped _ c.requires.well c.args.j c.args.k) (no_columns _) (rw c.deref_mut.ensures.value at c.swap_each.ensures))

pub returns-clause-swapped : goal.returns-clause-swapped
returns-clause-swapped g c = (swapped g c).is

pub returns-clause-well : goal.returns-clause-well
returns-clause-well g c = (swapped g c).well
