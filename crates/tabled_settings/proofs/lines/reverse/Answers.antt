use Rattle.tabled_settings.proofs.Common.{◌+◌, ◌-◌, ◌/◌, ◌∙◌, ◌≡◌, ◌≤◌, Columns, Position, Rows, ap₂, arith, place, refl, same_count, subst, with_cells_swapped, ℕ}
use Rattle.tabled_settings.proofs.Reversed.{ends, ends_all, ends_more, ends_next, ends_none, ends_of_rows, ends_start}
use Rattle.tabled_settings.proofs.RowByRow.{Underway, underway-all, underway-more, underway-next, underway-none}
use Rattle.tabled_settings.proofs.lines.reverse.Goals as goal

pub loop-k-init : goal.loop-k-init
loop-k-init g c = record { well = c.requires.well; ends = ends_none _ _ _ _ (g.R.GridStore.even _ c.requires.well) }

pub swap_row-requires-clause-i_within : goal.swap_row-requires-clause-i_within
swap_row-requires-clause-i_within g c =
    let within = (rw c.in-Rows.is at c.requires.within) in
    omega (arith, same_count Rows (g.R.GridStore.grid c.args.records.now) (g.R.GridStore.grid c.loop-k.records) c.loop-k.invariant.ends.shape, within, c.loop-k-test.true)

pub swap_row-requires-clause-k_within : goal.swap_row-requires-clause-k_within
swap_row-requires-clause-k_within g c =
    let within = (rw c.in-Rows.is at c.requires.within) in
    omega (arith, same_count Rows (g.R.GridStore.grid c.args.records.now) (g.R.GridStore.grid c.loop-k.records) c.loop-k.invariant.ends.shape, within, c.loop-k-test.true)

pub loop-k-preserved : goal.loop-k-preserved
loop-k-preserved g c =
    let s = c.args.start in
    let e = c.args.end in
    let k = c.loop-k.k in
    let i = c.loop-k.invariant in
    let within = (rw c.in-Rows.is at c.requires.within) in
    let same = same_count Rows (g.R.GridStore.grid c.args.records.now) (g.R.GridStore.grid c.loop-k.records) i.ends.shape in
    record {
      well = c.swap_row.ensures.well;
      ends = ends_more Rows s e k (k + 1) (s + k) (e - 1 - k) _ _ _ i.ends c.swap_row.ensures.swapped refl refl (omega (arith, c.loop-k-test.true)) (omega (arith, c.loop-k-test.true)) (omega (arith, same, within, c.loop-k-test.true));
    }

pub loop-row-init : goal.loop-row-init
loop-row-init g c = record { well = c.requires.well; rows = underway-none (ends c.args.start c.args.end) _ _ (g.R.GridStore.even _ c.requires.well) (ends_start c.args.start c.args.end) }

pub loop-j-init : goal.loop-j-init
loop-j-init g c = record { well = c.loop-row.invariant.well; rows = c.loop-row.invariant.rows }

pub loop-j-preserved : goal.loop-j-preserved
loop-j-preserved g c =
    let s = c.args.start in
    let e = c.args.end in
    let i = c.loop-row.row in
    let j = c.loop-j.j in
    let cur = g.R.GridStore.grid c.loop-j.records in
    let within : e ≤ (g.R.GridStore.grid c.args.records.now).columns = (rw c.in-Columns.is at c.requires.within) in
    let left : c.new.result ≡ place i (s + j) = ap₂ place c.new.ensures.row c.new.ensures.col in
    let right : c.new-in-loop-j.result ≡ place i (e - 1 - j) = ap₂ place c.new-in-loop-j.ensures.row c.new-in-loop-j.ensures.col in
    record {
      well = c.swap.ensures.well;
      rows = underway-more (ends s e) _ i _ cur j (j + 1) (s + j) (e - 1 - j) _ c.loop-j.invariant.rows (c.swap.ensures.swapped ∙ ap₂ (λ (p q : Position). with_cells_swapped cur p q) left right) (omega (arith, c.loop-row-test.true, c.count_rows-row-end.ensures.rows)) (omega (arith, c.loop-j-test.true, within)) (omega (arith, c.loop-j-test.true, within)) (ends_next s e j);
    }

pub loop-row-preserved : goal.loop-row-preserved
loop-row-preserved g c =
    let s = c.args.start in
    let e = c.args.end in
    let all : c.loop-j.j ≡ (e - s) / 2 = omega (arith, c.loop-j-test.false, c.loop-j.auto.j-end) in
    record { well = c.loop-j.invariant.well; rows = underway-next (ends s e) _ c.loop-row.row _ _ (c.loop-row.row + 1) refl (ends_start s e) (subst (λ (j : ℕ). Underway (ends s e) ((e - s) / 2) c.loop-row.row j (g.R.GridStore.grid c.args.records.now) (g.R.GridStore.grid c.loop-j.records)) all c.loop-j.invariant.rows) }

pub returns-after-loop-k-clause-reversed : goal.returns-after-loop-k-clause-reversed
returns-after-loop-k-clause-reversed g c = rw c.in-Rows.is (ends_all Rows _ _ c.loop-k.k _ _ (omega (arith, c.loop-k.auto.k-end)) (omega (arith, c.loop-k-test.false)) c.loop-k.invariant.ends)

pub returns-after-loop-row-clause-reversed : goal.returns-after-loop-row-clause-reversed
returns-after-loop-row-clause-reversed g c =
    let s = c.args.start in
    let e = c.args.end in
    let m = (e - s) / 2 in
    let old = g.R.GridStore.grid c.args.records.now in
    let within : e ≤ old.columns = (rw c.in-Columns.is at c.requires.within) in
    let is = underway-all (ends s e) m c.loop-row.row 0 old _ (g.R.GridStore.even _ c.requires.well) (omega (arith, c.loop-row-test.false, c.count_rows-row-end.ensures.rows)) c.loop-row.invariant.rows in
    rw (is, c.in-Columns.is) (ends_all Columns s e m old _ (omega (arith, c.requires.order)) (omega (arith, c.requires.order)) (ends_of_rows s e m old (g.R.GridStore.even _ c.requires.well) (omega (arith, c.requires.order)) within))
