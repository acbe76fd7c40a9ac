use Rattle.tabled_settings.proofs.Common.{◌+◌, ◌∙◌, ◌≡◌, Position, Rows, ap, ap₂, arith, get_or, is_marked, left_over, length, place, refl, same_count, subst, sym, with_cells_swapped, ℕ}
use Rattle.tabled_settings.proofs.Dropped.{left_at, left_more_gone, left_more_kept, thinned, thinned-gone, thinned-kept, thinned-none, thinned_rows}
use Rattle.tabled_settings.proofs.KeptLines.{brings_more, brings_none}
use Rattle.tabled_settings.proofs.RisingLists.{left_rises}
use Rattle.tabled_settings.proofs.RowByRow.{Underway, underway-all, underway-more, underway-next, underway-none, underway-skip}
use Rattle.tabled_settings.proofs.lines.thin.Goals as goal

pub loop-i-init : goal.loop-i-init
loop-i-init g c = record { well = c.requires.well; brings = brings_none _ _ _ (g.R.GridStore.even _ c.requires.well); many = refl; few = omega arith }

pub loop-i-preserved : goal.loop-i-preserved
loop-i-preserved g c =
    let many = (rw c.in-Rows.is at c.requires.many) in
    let test = is_marked c.args.gone.now in
    let n = length c.args.gone.now in
    let i = c.loop-i.i in
    let k = c.loop-i.kept in
    let u = c.loop-i.invariant in
    let same = same_count Rows (g.R.GridStore.grid c.args.records.now) (g.R.GridStore.grid c.loop-i.records) u.brings.shape in
    elim c.if-not-is_marked.branch [
      | goal.then-not-is_marked w ↦ (
          let stays = sym c.is_marked.ensures ∙ w.if-not-is_marked.true in
          let next = left_at test i n c.loop-i-test.true stays in
          rw (w.records-is, w.kept-is) (record {
            well = w.swap_row.ensures.well;
            brings = brings_more Rows (left_over test n) (left_rises test n) k (k + 1) i _ _ _ u.brings (omega (arith, u.many, next.0)) (sym (ap (λ (k : ℕ). get_or (left_over test n) k 0) u.many ∙ next.1)) w.swap_row.ensures.swapped refl (omega (arith, same, c.loop-i-test.true, many));
            many = ap (λ (n : ℕ). n + 1) u.many ∙ sym (left_more_kept test i stays);
            few = omega (arith, u.few);
          })
          )
      | goal.else-not-is_marked w ↦ rw (w.records-is, w.kept-is) (record {
        well = u.well;
        brings = u.brings;
        many = u.many ∙ sym (left_more_gone test i (sym c.is_marked.ensures ∙ w.if-not-is_marked.false));
        few = omega (arith, u.few);
      })
    ]

pub returns-after-loop-i-clause-brings : goal.returns-after-loop-i-clause-brings
returns-after-loop-i-clause-brings g c = rw c.in-Rows.is c.loop-i.invariant.brings

pub returns-after-loop-i-clause-many : goal.returns-after-loop-i-clause-many
returns-after-loop-i-clause-many g c =
    let all : c.loop-i.i ≡ length c.args.gone.now = omega (arith, c.loop-i-test.false, c.loop-i.auto.i-end) in
    c.loop-i.invariant.many ∙ ap (λ (i : ℕ). length (left_over (is_marked c.args.gone.now) i)) all

pub loop-row-init : goal.loop-row-init
loop-row-init g c = record { well = c.requires.well; rows = underway-none (thinned (is_marked c.args.gone.now)) _ _ (g.R.GridStore.even _ c.requires.well) (thinned-none (is_marked c.args.gone.now)) }

pub loop-j-init : goal.loop-j-init
loop-j-init g c = record { well = c.loop-row.invariant.well; rows = c.loop-row.invariant.rows; many = refl; few = omega arith }

pub loop-j-preserved : goal.loop-j-preserved
loop-j-preserved g c =
    let many = (rw c.in-Columns.is at c.requires.many) in
    let test = is_marked c.args.gone.now in
    let i = c.loop-row.row in
    let j = c.loop-j.j in
    let k = c.loop-j.kept in
    let u = c.loop-j.invariant in
    let cur = g.R.GridStore.grid c.loop-j.records in
    elim c.if-not-is_marked-2.branch [
      | goal.then-not-is_marked-2 w ↦ (
          let stays = sym c.is_marked-in-loop-j.ensures ∙ w.if-not-is_marked-2.true in
          let left : w.new.result ≡ place i k = ap₂ place w.new.ensures.row w.new.ensures.col in
          let right : w.new-then-not-is_marked-2.result ≡ place i j = ap₂ place w.new-then-not-is_marked-2.ensures.row w.new-then-not-is_marked-2.ensures.col in
          rw (w.records-is, w.kept-is) (record {
            well = w.swap.ensures.well;
            rows = underway-more (thinned test) _ i _ cur j (j + 1) k j _ u.rows (w.swap.ensures.swapped ∙ ap₂ (λ (p q : Position). with_cells_swapped cur p q) left right) (omega (arith, c.loop-row-test.true, c.count_rows-row-end.ensures.rows)) (omega (arith, u.few, c.loop-j-test.true, many)) (omega (arith, c.loop-j-test.true, many)) (thinned-kept test j k u.many stays);
            many = ap (λ (n : ℕ). n + 1) u.many ∙ sym (left_more_kept test j stays);
            few = omega (arith, u.few);
          })
          )
      | goal.else-not-is_marked-2 w ↦ (
          let gone = sym c.is_marked-in-loop-j.ensures ∙ w.if-not-is_marked-2.false in
          rw (w.records-is, w.kept-is) (record {
            well = u.well;
            rows = underway-skip (thinned test) _ i _ cur j (j + 1) u.rows (thinned-gone test j gone);
            many = u.many ∙ sym (left_more_gone test j gone);
            few = omega (arith, u.few);
          })
          )
    ]

pub loop-row-preserved : goal.loop-row-preserved
loop-row-preserved g c =
    let test = is_marked c.args.gone.now in
    let all : c.loop-j.j ≡ length c.args.gone.now = omega (arith, c.loop-j-test.false, c.loop-j.auto.j-end) in
    record { well = c.loop-j.invariant.well; rows = underway-next (thinned test) _ c.loop-row.row _ _ (c.loop-row.row + 1) refl (thinned-none test) (subst (λ (j : ℕ). Underway (thinned test) (length c.args.gone.now) c.loop-row.row j (g.R.GridStore.grid c.args.records.now) (g.R.GridStore.grid c.loop-j.records)) all c.loop-j.invariant.rows) }

pub returns-after-loop-row-clause-brings : goal.returns-after-loop-row-clause-brings
returns-after-loop-row-clause-brings g c =
    let test = is_marked c.args.gone.now in
    let m = length c.args.gone.now in
    let old = g.R.GridStore.grid c.args.records.now in
    let many = (rw c.in-Columns.is at c.requires.many) in
    let is = underway-all (thinned test) m c.loop-row.row 0 old _ (g.R.GridStore.even _ c.requires.well) (omega (arith, c.loop-row-test.false, c.count_rows-row-end.ensures.rows)) c.loop-row.invariant.rows in
    rw (is, c.count_kept.ensures, c.in-Columns.is) (thinned_rows test m m old (g.R.GridStore.even _ c.requires.well) (omega arith) (omega (arith, many)))
