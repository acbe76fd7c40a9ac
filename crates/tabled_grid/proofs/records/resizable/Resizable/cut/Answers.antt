use Rattle.tabled_grid.proofs.Common.{◌-◌, ◌∙◌, ap, arith, first_along, refl}
use Rattle.tabled_grid.proofs.AddedLines.{added_undone}
use Rattle.tabled_grid.proofs.Cutting.{Sizes, all_moved, cell_moved, from_inside, none_moved, number_fits, piece_moved, to_inside}
use Rattle.tabled_grid.proofs.records.resizable.Resizable.cut.Goals as goal

pub returns-in-Err-clause-err : goal.returns-in-Err-clause-err
returns-in-Err-clause-err g c =
    added_undone g.Self.Cell.Blank.is_blank _ (g.Self.GridStore.grid c.args.self.now) _ (g.Self.GridStore.even _ c.requires.well) c.across-across.result _ c.count-width.result (g.met.Self.Resizable.rowless _ c.requires.well) c.in_ok-push_lines.ensures.ok c.count-width.ensures.count
    (c.truncate_lines.ensures.first ∙ ap (first_along c.across-across.result c.count-width.result) c.in-Err.ensures.err)

pub loop-target-init : goal.loop-target-init
loop-target-init g c =
    let width = rw c.across-across.ensures at c.count-width.ensures.count in
    let z : Sizes c.args.lines c.args.index c.count-count.result c.count-width.result c.div_ceil-pieces.result c.in-Some.all c.in-Some-checked_mul.wide (g.Self.GridStore.grid c.args.self.now) =
    record { even = (g.Self.GridStore.even _ c.requires.well); lines_are = c.count-count.ensures.count; width_is = width; some = omega (arith, c.count-count.ensures.count, c.requires.some); some_index = c.requires.index; narrow = omega (arith, width, c.requires.narrow); pieces_are = c.div_ceil-pieces.ensures; all_is = c.in-Some.ensures.1; broad_is = c.in-Some-checked_mul.ensures.1 } in
    record {
      sizes = z;
      well = c.in_default-push_lines.ensures.well;
      within = omega (arith, c.in-Some.ensures.1);
      grown = none_moved g.Self.Cell.Blank.is_blank c.args.lines c.args.order c.args.index c.count-count.result c.count-width.result c.div_ceil-pieces.result c.in-Some.all c.in-Some-checked_mul.wide _ z _ _ (rw c.across-across.ensures at c.in_ok-push_lines.ensures.ok) c.in_default-push_lines.ensures.ok;
    }

pub loop-target-preserved : goal.loop-target-preserved
loop-target-preserved g c =
    record {
      sizes = c.loop-cell.invariant.sizes;
      well = c.loop-cell.invariant.well;
      within = omega (arith, c.loop-target.invariant.within);
      grown = piece_moved g.Self.Cell.Blank.is_blank c.args.lines c.args.order c.args.index c.count-count.result c.count-width.result c.div_ceil-pieces.result c.in-Some.all c.in-Some-checked_mul.wide _ c.loop-cell.invariant.sizes (c.loop-target.target - 1) _ c.loop-cell.cell _ refl (omega (arith, c.loop-cell-test.false)) c.loop-cell.invariant.grown;
    }

pub overflow_mul-number : goal.overflow_mul-number
overflow_mul-number g c =
    let fits = c.in-Some-checked_mul.ensures.0 in
    let below = number_fits g.Self.Cell.Blank.is_blank c.args.lines c.args.order c.args.index c.count-count.result c.count-width.result c.div_ceil-pieces.result c.in-Some.all c.in-Some-checked_mul.wide _ c.loop-cell.invariant.sizes (c.loop-target.target - 1) c.loop-cell.cell (omega (arith, c.loop-target.invariant.within, c.loop-target-test.true, c.in-Some.ensures.1)) c.loop-cell-test.true in
    omega (arith, fits, rw (← c.nth_piece-line.ensures.nth) at below)

pub overflow_add-number : goal.overflow_add-number
overflow_add-number g c =
    let fits = c.in-Some-checked_mul.ensures.0 in
    let below = number_fits g.Self.Cell.Blank.is_blank c.args.lines c.args.order c.args.index c.count-count.result c.count-width.result c.div_ceil-pieces.result c.in-Some.all c.in-Some-checked_mul.wide _ c.loop-cell.invariant.sizes (c.loop-target.target - 1) c.loop-cell.cell (omega (arith, c.loop-target.invariant.within, c.loop-target-test.true, c.in-Some.ensures.1)) c.loop-cell-test.true in
    omega (arith, fits, rw (← c.nth_piece-line.ensures.nth) at below)

pub swap-requires-clause-p_inside : goal.swap-requires-clause-p_inside
swap-requires-clause-p_inside g c =
    rw (c.place.ensures, c.nth_piece-line.ensures.nth) (from_inside g.Self.Cell.Blank.is_blank c.args.lines c.args.order c.args.index c.count-count.result c.count-width.result c.div_ceil-pieces.result c.in-Some.all c.in-Some-checked_mul.wide _ c.loop-cell.invariant.sizes (c.loop-target.target - 1) _ c.loop-cell.cell _ refl
    (omega (arith, c.loop-target.invariant.within, c.loop-target-test.true, c.in-Some.ensures.1)) c.loop-cell-test.true c.loop-cell.invariant.grown)

pub swap-requires-clause-q_inside : goal.swap-requires-clause-q_inside
swap-requires-clause-q_inside g c =
    rw c.place-in-loop-cell.ensures (to_inside g.Self.Cell.Blank.is_blank c.args.lines c.args.order c.args.index c.count-count.result c.count-width.result c.div_ceil-pieces.result c.in-Some.all c.in-Some-checked_mul.wide _ c.loop-cell.invariant.sizes (c.loop-target.target - 1) _ c.loop-cell.cell _ refl
    (omega (arith, c.loop-target.invariant.within, c.loop-target-test.true, c.in-Some.ensures.1)) c.loop-cell-test.true c.loop-cell.invariant.grown)

pub loop-cell-preserved : goal.loop-cell-preserved
loop-cell-preserved g c =
    record {
      sizes = c.loop-cell.invariant.sizes;
      well = c.swap.ensures.well;
      grown = cell_moved g.Self.Cell.Blank.is_blank c.args.lines c.args.order c.args.index c.count-count.result c.count-width.result c.div_ceil-pieces.result c.in-Some.all c.in-Some-checked_mul.wide _ c.loop-cell.invariant.sizes (c.loop-target.target - 1) _ c.loop-cell.cell _ refl
          (omega (arith, c.loop-target.invariant.within, c.loop-target-test.true, c.in-Some.ensures.1)) c.loop-cell-test.true c.loop-cell.invariant.grown _ _ refl (rw (c.place.ensures, c.place-in-loop-cell.ensures, c.nth_piece-line.ensures.nth) at c.swap.ensures.swapped);
    }

pub returns-clause-ok : goal.returns-clause-ok
returns-clause-ok g c =
    all_moved g.Self.Cell.Blank.is_blank c.args.lines c.args.order c.args.index c.count-count.result c.count-width.result c.div_ceil-pieces.result c.in-Some.all c.in-Some-checked_mul.wide _ c.loop-target.invariant.sizes c.loop-target.target _ _ (omega (arith, c.loop-target-test.false)) c.loop-target.invariant.grown
    (rw c.across-across.ensures at c.truncate_lines-2.ensures.first)
