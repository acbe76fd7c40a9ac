use Rattle.tabled_settings.proofs.Common.{◌+◌, ◌∙◌, ◌≡◌, Position, Rows, ap₂, arith, get_or, length, place, refl, same_count, subst, with_cells_swapped, ℕ}
use Rattle.tabled_settings.proofs.LineSwaps.{swapped_more, swapped_none, swapped_rows}
use Rattle.tabled_settings.proofs.RowByRow.{Underway, underway-all, underway-more, underway-next, underway-none}
use Rattle.tabled_settings.proofs.SwapsFound.{after_more, after_none}
use Rattle.tabled_settings.specs.Arranged.{after_swaps}
use Rattle.tabled_settings.proofs.lines.swap_forward.Goals as goal

pub loop-k-init : goal.loop-k-init
loop-k-init g c = record { well = c.requires.well; swapped = swapped_none _ _ _ (g.R.GridStore.even _ c.requires.well) }

pub swap_row-requires-clause-i_within : goal.swap_row-requires-clause-i_within
swap_row-requires-clause-i_within g c =
    let f = (rw c.in-Rows.is at c.requires.forward) in
    omega (arith, same_count Rows (g.R.GridStore.grid c.args.records.now) (g.R.GridStore.grid c.loop-k.records) c.loop-k.invariant.swapped.shape, f.ahead c.loop-k.k c.loop-k-test.true, f.within c.loop-k.k c.loop-k-test.true)

pub swap_row-requires-clause-k_within : goal.swap_row-requires-clause-k_within
swap_row-requires-clause-k_within g c =
    let f = (rw c.in-Rows.is at c.requires.forward) in
    omega (arith, same_count Rows (g.R.GridStore.grid c.args.records.now) (g.R.GridStore.grid c.loop-k.records) c.loop-k.invariant.swapped.shape, f.within c.loop-k.k c.loop-k-test.true)

pub loop-k-preserved : goal.loop-k-preserved
loop-k-preserved g c =
    let f = (rw c.in-Rows.is at c.requires.forward) in
    let k = c.loop-k.k in
    let within = f.within k c.loop-k-test.true in
    record {
      well = c.swap_row.ensures.well;
      swapped = swapped_more Rows c.args.swaps.now k (k + 1) (get_or c.args.swaps.now k 0) _ _ _ c.loop-k.invariant.swapped refl (omega (arith, f.ahead k c.loop-k-test.true, within)) within c.swap_row.ensures.swapped refl;
    }

pub returns-after-loop-k-clause-swapped : goal.returns-after-loop-k-clause-swapped
returns-after-loop-k-clause-swapped g c =
    let all : c.loop-k.k ≡ length c.args.swaps.now = omega (arith, c.loop-k-test.false, c.loop-k.auto.k-end) in
    rw (c.in-Rows.is, ← all) c.loop-k.invariant.swapped

pub loop-row-init : goal.loop-row-init
loop-row-init g c = record { well = c.requires.well; rows = underway-none (after_swaps c.args.swaps.now) _ _ (g.R.GridStore.even _ c.requires.well) (after_none c.args.swaps.now) }

pub loop-j-preserved : goal.loop-j-preserved
loop-j-preserved g c =
    let f = (rw c.in-Columns.is at c.requires.forward) in
    let i = c.loop-row.row in
    let j = c.loop-j.j in
    let other = get_or c.args.swaps.now j 0 in
    let cur = g.R.GridStore.grid c.loop-j.records in
    let within = f.within j c.loop-j-test.true in
    let left : c.new.result ≡ place i j = ap₂ place c.new.ensures.row c.new.ensures.col in
    let right : c.new-in-loop-j.result ≡ place i other = ap₂ place c.new-in-loop-j.ensures.row c.new-in-loop-j.ensures.col in
    record {
      well = c.swap.ensures.well;
      rows = underway-more (after_swaps c.args.swaps.now) _ i _ cur j (j + 1) j other _ c.loop-j.invariant.rows (c.swap.ensures.swapped ∙ ap₂ (λ (p q : Position). with_cells_swapped cur p q) left right) (omega (arith, c.loop-row-test.true, c.count_rows-row-end.ensures.rows)) (omega (arith, f.ahead j c.loop-j-test.true, within)) within (after_more c.args.swaps.now j);
    }

pub loop-row-preserved : goal.loop-row-preserved
loop-row-preserved g c =
    let all : c.loop-j.j ≡ length c.args.swaps.now = omega (arith, c.loop-j-test.false, c.loop-j.auto.j-end) in
    record { well = c.loop-j.invariant.well; rows = underway-next (after_swaps c.args.swaps.now) _ c.loop-row.row _ _ (c.loop-row.row + 1) refl (after_none c.args.swaps.now) (subst (λ (j : ℕ). Underway (after_swaps c.args.swaps.now) (length c.args.swaps.now) c.loop-row.row j (g.R.GridStore.grid c.args.records.now) (g.R.GridStore.grid c.loop-j.records)) all c.loop-j.invariant.rows) }

pub returns-after-loop-row-clause-swapped : goal.returns-after-loop-row-clause-swapped
returns-after-loop-row-clause-swapped g c =
    let f = (rw c.in-Columns.is at c.requires.forward) in
    let swaps = c.args.swaps.now in
    let old = g.R.GridStore.grid c.args.records.now in
    let is = underway-all (after_swaps swaps) (length swaps) c.loop-row.row 0 old _ (g.R.GridStore.even _ c.requires.well) (omega (arith, c.loop-row-test.false, c.count_rows-row-end.ensures.rows)) c.loop-row.invariant.rows in
    rw (is, c.in-Columns.is) (swapped_rows swaps (length swaps) old (g.R.GridStore.even _ c.requires.well) (λ a h. (omega (arith, f.ahead a h, f.within a h), f.within a h)))
