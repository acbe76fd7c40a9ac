use Rattle.tabled_grid.proofs.Common.{◌+◌, ◌-◌, ◌≡◌, arith, refl}
use Rattle.tabled_grid.proofs.Squares.{square_begins, square_cut, square_made, square_more, square_swapped, turned_more}
use Rattle.tabled_grid.proofs.Diagonal.{half_begun, half_row}
use Rattle.tabled_grid.proofs.Transposed.{transposed_none}
use Rattle.tabled_grid.proofs.records.resizable.Resizable.transpose.Goals as goal

pub loop-i-init : goal.loop-i-init
loop-i-init g c =
    let rows = c.in_ok-push_rows.ensures.ok in
    let columns = rw c.in_default.is at c.push_columns.ensures.ok in
    let tall : (g.Self.GridStore.grid c.args.self.now).rows + (c.max-size.result - c.count_rows-rows.result) ≡ c.max-size.result = omega (arith, c.count_rows-rows.ensures.rows, c.max-size.ensures) in
    record {
      well = c.push_columns.ensures.well;
      square = square_made _ c.max-size.result _ _ (g.Self.GridStore.grid c.args.self.now) _ _ (g.Self.GridStore.even _ c.requires.well) (g.met.Self.Resizable.rowless _ c.push_rows.ensures.well) tall (omega (arith, c.count_columns-columns.ensures.columns, c.max-size.ensures)) rows columns;
      turned = square_begins _ c.max-size.result _ _ (g.Self.GridStore.grid c.args.self.now) _ _ tall rows columns;
    }

pub loop-j-init : goal.loop-j-init
loop-j-init g c = let i = c.loop-i.invariant in record { well = i.well; square = i.square; turned = square_more _ _ _ _ _ _ _ _ _ i.turned (λ _ t. half_begun _ _ _ c.loop-i.i (c.loop-i.i + 1) refl t) }

pub swap-requires-clause-p_inside : goal.swap-requires-clause-p_inside
swap-requires-clause-p_inside g c = let i = c.loop-j.invariant in record { row = omega (arith, i.square.rows, c.loop-i-test.true); col = omega (arith, i.square.columns, c.loop-j-test.true) }

pub swap-requires-clause-q_inside : goal.swap-requires-clause-q_inside
swap-requires-clause-q_inside g c = let i = c.loop-j.invariant in record { row = omega (arith, i.square.rows, c.loop-j-test.true); col = omega (arith, i.square.columns, c.loop-i-test.true) }

pub loop-j-preserved : goal.loop-j-preserved
loop-j-preserved g c =
    let i = c.loop-j.invariant in
    record {
      well = c.swap.ensures.well;
      square = square_swapped _ _ _ _ _ i.square c.swap.ensures.swapped;
      turned = square_more _ _ _ _ _ _ _ _ _ i.turned (λ s t. turned_more s _ _ _ c.loop-i.i c.loop-j.j t (record { row = c.loop-i.i; col = c.loop-j.j }) (record { row = c.loop-j.j; col = c.loop-i.i }) (c.loop-j.j + 1) refl (omega (arith, c.loop-j.auto.j)) refl refl refl refl (omega (arith, c.loop-j-test.true)) i.square c.swap.ensures.swapped);
    }

pub loop-i-preserved : goal.loop-i-preserved
loop-i-preserved g c =
    let i = c.loop-j.invariant in
    record { well = i.well; square = i.square; turned = square_more _ _ _ _ _ _ _ _ _ i.turned (λ _ t. half_row _ _ _ c.loop-i.i c.loop-j.j (c.loop-i.i + 1) refl (omega (arith, c.loop-j-test.false)) t) }

pub returns-then-columns-eq0-clause-ok : goal.returns-then-columns-eq0-clause-ok
returns-then-columns-eq0-clause-ok g c = transposed_none _ _ (g.Self.GridStore.even _ c.requires.well) (omega (arith, c.count_columns-columns.ensures.columns, c.if-columns-eq0.true)) c.truncate_rows.ensures.first

pub returns-clause-ok : goal.returns-clause-ok
returns-clause-ok g c =
    let i = c.loop-i.invariant in
    square_cut _ _ _ _ _ i.turned (g.Self.GridStore.even _ c.requires.well) i.square (omega (arith, c.count_columns-columns.ensures.columns, c.max-size.ensures)) (omega (arith, c.loop-i-test.false))
    _ _ _ _ c.count_rows-rows.ensures.rows c.count_columns-columns.ensures.columns (omega (arith, c.if-columns-eq0.false)) c.truncate_rows-2.ensures.first c.truncate_columns.ensures.first
