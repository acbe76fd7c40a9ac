use Rattle.tabled_grid.proofs.Common.{◌<◌, ◌≡◌, arith, common_steps, grid_of, map_items, no_columns, with_cells_swapped, with_items}
use Rattle.tabled_grid.proofs.NestedRows.{HaveGrid, each_long, have_grid}
use Rattle.tabled_grid.proofs.Resized.{IsEven-with_cells_swapped}
use Rattle.tabled_grid.proofs.records.nested_rows.resizable.VecVecResizable.swap.Goals as goal

pub swap_cells-requires-clause-p_col : goal.swap_cells-requires-clause-p_col
swap_cells-requires-clause-p_col g c = rw c.deref_mut.ensures.value (each_long (λ n. c.args.p.col < n) _ c.args.self.now.items c.requires.well.wide c.requires.p_inside.col)

pub swap_cells-requires-clause-q_col : goal.swap_cells-requires-clause-q_col
swap_cells-requires-clause-q_col g c = rw c.deref_mut.ensures.value (each_long (λ n. c.args.q.col < n) _ c.args.self.now.items c.requires.well.wide c.requires.q_inside.col)

swapped : (g : _) (c : goal.After-self-1 g) → HaveGrid (map_items (with_items c.args.self.now c.swap_cells.new.rows).items) (with_cells_swapped (grid_of (map_items c.args.self.now.items)) c.args.p c.args.q)
swapped g c =
    let items : (with_items c.args.self.now c.swap_cells.new.rows).items ≡ c.swap_cells.new.rows = grind (arith, common_steps) in
    rw items (have_grid _ _ (IsEven-with_cells_swapped _ c.args.p c.args.q c.requires.well) (no_columns _) (rw c.deref_mut.ensures.value at c.swap_cells.ensures))

pub returns-clause-swapped : goal.returns-clause-swapped
returns-clause-swapped g c = (swapped g c).is

pub returns-clause-well : goal.returns-clause-well
returns-clause-well g c = (swapped g c).well
