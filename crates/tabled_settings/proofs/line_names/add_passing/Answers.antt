use Rattle.tabled_settings.proofs.Common.{[], ◌++◌, ◌+◌, ◌-◌, ◌∙◌, ◌∷◌, ◌≡◌, ◌≤◌, List, ap, append-nil, append_assoc, arith, false, filter, map_grid, range_with_len, sym, true, ℕ}
use Rattle.tabled_settings.proofs.NamedLines.{filter_one_more}
use Rattle.tabled_settings.specs.Named.{row_passes, text_passes}
use Rattle.tabled_settings.proofs.line_names.add_passing.Goals as goal

pub loop-row-preserved : goal.loop-row-preserved
loop-row-preserved g c =
    let test = row_passes (text_passes c.args.test.now) c.args.columns.now (map_grid g.R.Cell.CellText.text_of (g.R.GridStore.grid c.args.records.now)) in
    let i = c.loop-row.row in
    let u = c.loop-row.invariant in
    let old = c.args.found.now.items in
    let next : i + 1 - 1 ≡ (i - 1) + 1 = omega (arith, c.loop-row.auto.row) in
    let here : 1 + (i - 1) ≡ i = omega (arith, c.loop-row.auto.row) in
    let few : i + 1 - 1 ≤ (g.R.GridStore.grid c.args.records.now).rows - 1 = omega (arith, c.loop-row-test.true, c.count_rows-row-end.ensures.rows) in
    elim c.if-row_passes.branch [
      | goal.then-row_passes+in_ok-push w ↦
          let more = filter_one_more test 1 (i - 1) (i + 1 - 1) true next (ap test here ∙ sym c.row_passes.ensures ∙ w.if-row_passes.true) in
          rw w.found-is (record {
            items = rw (w.in_ok-push.ensures.items, u.items, append_assoc) (ap (λ (xs : List ℕ). old ++ xs) (ap (λ (k : ℕ). filter test (range_with_len 1 (i - 1)) ++ k ∷ []) (sym here) ∙ sym more));
            few = few;
          })
      | goal.else-row_passes w ↦
          let more = filter_one_more test 1 (i - 1) (i + 1 - 1) false next (ap test here ∙ sym c.row_passes.ensures ∙ w.if-row_passes.false) in
          rw w.found-is (record { items = u.items ∙ ap (λ (xs : List ℕ). old ++ xs) (sym (more ∙ append-nil _)); few = few })
    ]

pub returns : goal.returns
returns g c =
    let test = row_passes (text_passes c.args.test.now) c.args.columns.now (map_grid g.R.Cell.CellText.text_of (g.R.GridStore.grid c.args.records.now)) in
    let u = c.loop-row.invariant in
    let all : c.loop-row.row - 1 ≡ (g.R.GridStore.grid c.args.records.now).rows - 1 = omega (arith, u.few, c.loop-row-test.false, c.count_rows-row-end.ensures.rows) in
    u.items ∙ ap (λ (n : ℕ). c.args.found.now.items ++ filter test (range_with_len 1 n)) all
