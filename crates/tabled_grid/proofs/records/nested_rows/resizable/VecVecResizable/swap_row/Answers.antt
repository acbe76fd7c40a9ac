use Rattle.tabled_grid.proofs.Common.{◌∙◌, ◌≡◌, ap, arith, common_steps, grid_of, map-swap, map_items, no_columns, with_items, with_rows_swapped}
use Rattle.tabled_grid.proofs.NestedRows.{HaveGrid, have_grid}
use Rattle.tabled_grid.proofs.Resized.{IsEven-with_rows_swapped}
use Rattle.tabled_grid.proofs.records.nested_rows.resizable.VecVecResizable.swap_row.Goals as goal

swapped : (g : _) (c : goal.After-self-1 g) → HaveGrid (map_items (with_items c.args.self.now c.swap.new.self).items) (with_rows_swapped (grid_of (map_items c.args.self.now.items)) c.args.i c.args.k)
swapped g c =
    let items : (with_items c.args.self.now c.swap.new.self).items ≡ c.swap.new.self = grind (arith, common_steps) in
    rw items (have_grid _ _ (IsEven-with_rows_swapped _ c.requires.well c.args.i c.args.k) (no_columns _) (ap map_items (rw c.as_mut_slice.ensures.value at c.swap.ensures.after) ∙ map-swap _ c.args.self.now.items c.args.i c.args.k))

pub returns-clause-swapped : goal.returns-clause-swapped
returns-clause-swapped g c = (swapped g c).is

pub returns-clause-well : goal.returns-clause-well
returns-clause-well g c = (swapped g c).well
