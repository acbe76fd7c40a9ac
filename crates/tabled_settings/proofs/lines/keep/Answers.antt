use Rattle.tabled_settings.proofs.Common.{◌+◌, ◌-◌, ◌<◌, ◌≡◌, ◌≤◌, BringsLines, arith, count_along, get_or-range_with_len, length-range_with_len, range_with_len, refl, same_count, subst, sym, ℕ}
use Rattle.std.proofs.Common.{min}
use Rattle.tabled_settings.proofs.KeptLines.{brings_more, brings_none, front_brought, kept_all}
use Rattle.tabled_settings.proofs.RisingLists.{range_rises}
use Rattle.tabled_settings.proofs.lines.keep.Goals as goal

pub loop-k-init : goal.loop-k-init
loop-k-init g c = record { well = c.requires.well; brings = brings_none _ _ _ (g.R.GridStore.even _ c.requires.well) }

pub loop-k-preserved : goal.loop-k-preserved
loop-k-preserved g c =
    let s = c.args.range.start in
    let n = min c.args.range.end (count_along c.args.axis (g.R.GridStore.grid c.args.records.now)) - s in
    let i = c.loop-k.invariant in
    let same = same_count c.args.axis (g.R.GridStore.grid c.args.records.now) (g.R.GridStore.grid c.loop-k.records) i.brings.shape in
    let few : c.if-range-gt0.moved ≤ c.count_in-kept.result = elim c.if-range-gt0.branch [ goal.then-range-gt0 w ↦ omega (arith, w.moved-is) | goal.else-range-gt0 w ↦ omega (arith, w.moved-is) ] in
    let here : c.loop-k.k < n = omega (arith, few, c.loop-k-test.true, c.count_in-kept.ensures, c.count.ensures.count) in
    record {
      well = c.swap.ensures.well;
      brings = brings_more c.args.axis (range_with_len s n) (range_rises s n) c.loop-k.k (c.loop-k.k + 1) (s + c.loop-k.k) _ _ _ i.brings (omega (arith, here, length-range_with_len s n)) (sym (get_or-range_with_len s n c.loop-k.k 0 here)) c.swap.ensures.swapped refl (omega (arith, here, same));
    }

pub returns-clause-kept : goal.returns-clause-kept
returns-clause-kept g c =
    let s = c.args.range.start in
    let old = g.R.GridStore.grid c.args.records.now in
    let cur = g.R.GridStore.grid c.loop-k.records in
    let n = min c.args.range.end (count_along c.args.axis old) - s in
    let b = c.loop-k.invariant.brings in
    let m = c.count_in-kept.result in
    let many : m ≡ n = omega (arith, c.count_in-kept.ensures, c.count.ensures.count) in
    let brought : BringsLines c.args.axis (range_with_len s n) m old cur = elim c.if-range-gt0.branch [
      | goal.then-range-gt0 w ↦
          let all : c.loop-k.k ≡ m = omega (arith, w.moved-is, c.loop-k-test.false, c.loop-k.auto.k-end) in
          subst (λ (k : ℕ). BringsLines c.args.axis (range_with_len s n) k old cur) all b
      | goal.else-range-gt0 w ↦
          let none : c.loop-k.k ≡ 0 = omega (arith, w.moved-is, c.loop-k-test.false, c.loop-k.auto.k-end) in
          front_brought c.args.axis s n m old cur (omega (arith, many)) (omega (arith, w.if-range-gt0.false)) (subst (λ (k : ℕ). BringsLines c.args.axis (range_with_len s n) k old cur) none b)
    ] in
    kept_all c.args.axis (range_with_len s n) m old cur _ brought (omega (arith, many, length-range_with_len s n)) (omega (arith, many, same_count c.args.axis old cur b.shape)) c.truncate_lines.ensures.first
