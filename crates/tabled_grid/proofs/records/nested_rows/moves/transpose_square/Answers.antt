use Rattle.tabled_grid.proofs.Common.{◌+◌, ◌<◌, arith, grid_of, length-map, map_items, no_columns, refl}
use Rattle.tabled_grid.proofs.Diagonal.{half_begun, half_none, half_row}
use Rattle.tabled_grid.proofs.NestedRows.{each_long, have_grid}
use Rattle.tabled_grid.proofs.Resized.{IsEven-with_cells_swapped}
use Rattle.tabled_grid.proofs.Squares.{square_swapped, turned_more, turned_square}
use Rattle.tabled_grid.proofs.records.nested_rows.moves.transpose_square.Goals as goal

pub loop-i-init : goal.loop-i-init
loop-i-init g c = record { square = record { even = c.requires.even; rows = length-map c.args.rows.now _; columns = c.requires.square }; turned = half_none _ _ }

pub loop-j-init : goal.loop-j-init
loop-j-init g c = let i = c.loop-i.invariant in record { square = i.square; turned = half_begun _ _ _ c.loop-i.i (c.loop-i.i + 1) refl i.turned }

pub swap_cells-requires-clause-p_row : goal.swap_cells-requires-clause-p_row
swap_cells-requires-clause-p_row g c = let i = c.loop-j.invariant in omega (arith, i.square.rows, length-map c.loop-j.rows (λ v. v.items), c.loop-i-test.true)

pub swap_cells-requires-clause-p_col : goal.swap_cells-requires-clause-p_col
swap_cells-requires-clause-p_col g c = let i = c.loop-j.invariant in each_long (λ n. c.loop-j.j < n) _ c.loop-j.rows i.square.even.wide (omega (arith, i.square.columns, c.loop-j-test.true))

pub swap_cells-requires-clause-q_row : goal.swap_cells-requires-clause-q_row
swap_cells-requires-clause-q_row g c = let i = c.loop-j.invariant in omega (arith, i.square.rows, length-map c.loop-j.rows (λ v. v.items), c.loop-j-test.true)

pub swap_cells-requires-clause-q_col : goal.swap_cells-requires-clause-q_col
swap_cells-requires-clause-q_col g c = let i = c.loop-j.invariant in each_long (λ n. c.loop-i.i < n) _ c.loop-j.rows i.square.even.wide (omega (arith, i.square.columns, c.loop-i-test.true))

pub loop-j-preserved : goal.loop-j-preserved
loop-j-preserved g c =
    let i = c.loop-j.invariant in
    let swapped = have_grid _ _ (IsEven-with_cells_swapped (grid_of (map_items c.loop-j.rows)) (record { row = c.loop-i.i; col = c.loop-j.j }) (record { row = c.loop-j.j; col = c.loop-i.i }) i.square.even) (no_columns (map_items c.loop-j.rows)) c.swap_cells.ensures in
    record {
      square = square_swapped _ _ _ _ _ i.square swapped.is;
      turned = turned_more (grid_of (map_items c.args.rows.now)) (grid_of (map_items c.loop-j.rows)) (grid_of (map_items c.swap_cells.new.rows)) _ c.loop-i.i c.loop-j.j i.turned (record { row = c.loop-i.i; col = c.loop-j.j }) (record { row = c.loop-j.j; col = c.loop-i.i }) (c.loop-j.j + 1) refl (omega (arith, c.loop-j.auto.j)) refl refl refl refl (omega (arith, c.loop-j-test.true)) i.square swapped.is;
    }

pub loop-i-preserved : goal.loop-i-preserved
loop-i-preserved g c = let i = c.loop-j.invariant in record { square = i.square; turned = half_row _ _ _ c.loop-i.i c.loop-j.j (c.loop-i.i + 1) refl (omega (arith, c.loop-j-test.false)) i.turned }

pub returns-clause-even : goal.returns-clause-even
returns-clause-even g c = c.loop-i.invariant.square.even

pub returns-clause-turned : goal.returns-clause-turned
returns-clause-turned g c =
    let i = c.loop-i.invariant in
    turned_square _ _ _ c.loop-i.i c.requires.some (omega (arith, c.loop-i-test.false)) (record { even = c.requires.even; rows = length-map c.args.rows.now _; columns = c.requires.square }) i.square i.turned
