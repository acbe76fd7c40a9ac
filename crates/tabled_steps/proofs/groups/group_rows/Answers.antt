use Rattle.tabled_steps.proofs.Common.{◌++◌, ◌-◌, ◌^◌, ◌∙◌, ◌≡◌, ◌≤◌, AreGroups, Excluded, IfOk-weaker, Included, Range, Row, ap, ap₂, arith, groups_outside, indexes, inl, map, max, min, once, range_with_len, rows_of, subst, sym, ℕ}
use Rattle.tabled_steps.proofs.Outside.{grouped-rows}
use Rattle.tabled_steps.proofs.groups.group_rows.Goals as goal

pub returns : goal.returns
returns g c =
    let grid = g.R.GridStore.grid c.args.records.now in
    let counted = c.count_rows-count.ensures.rows in
    let low : grid.rows ≤ 2 ^ 64 - 1 = omega (arith, counted, c.count_rows-count.type_inv) in
    let over : c.saturating_sub.result ≡ c.args.end - max c.args.start grid.rows = c.saturating_sub.ensures ∙ ap (λ n. c.args.end - n) (c.max.ensures ∙ ap (max c.args.start) counted) in
    let inside : c.in_ok-inside.inside.items ≡ map Row (range_with_len c.args.start (min c.args.end grid.rows - c.args.start)) =
    c.in_ok-inside.ensures
    ∙ ap (λ (r : Range ℕ). rows_of (indexes (Included r.start, Excluded r.end) grid.rows)) c.new.ensures
    ∙ ap (λ n. map Row (range_with_len c.args.start (n - c.args.start))) (c.min.ensures ∙ ap (min c.args.end) counted) in
    IfOk-weaker c.with_outside.result _ _ (λ grouped is. subst (AreGroups grid.rows grid.columns _) (sym (is ∙ ap₂ (λ es n. map once es ++ groups_outside n) inside over)) (grouped-rows grid.rows grid.columns (inl low) c.args.start c.args.end)) c.with_outside.ensures
