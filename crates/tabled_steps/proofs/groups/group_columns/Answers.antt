use Rattle.tabled_steps.proofs.Common.{◌++◌, ◌-◌, ◌^◌, ◌∙◌, ◌≡◌, ◌≤◌, AreGroups, Column, Excluded, IfOk-weaker, Included, Range, ap, ap₂, arith, columns_of, groups_outside, indexes, inr, map, max, min, once, range_with_len, subst, sym, ℕ}
use Rattle.tabled_steps.proofs.Outside.{grouped-columns}
use Rattle.tabled_steps.proofs.groups.group_columns.Goals as goal

pub returns : goal.returns
returns g c =
    let grid = g.R.GridStore.grid c.args.records.now in
    let counted = c.count_columns-count.ensures.columns in
    let low : grid.columns ≤ 2 ^ 64 - 1 = omega (arith, counted, c.count_columns-count.type_inv) in
    let over : c.saturating_sub.result ≡ c.args.end - max c.args.start grid.columns = c.saturating_sub.ensures ∙ ap (λ n. c.args.end - n) (c.max.ensures ∙ ap (max c.args.start) counted) in
    let inside : c.in_ok-inside.inside.items ≡ map Column (range_with_len c.args.start (min c.args.end grid.columns - c.args.start)) =
    c.in_ok-inside.ensures
    ∙ ap (λ (r : Range ℕ). columns_of (indexes (Included r.start, Excluded r.end) grid.columns)) c.new.ensures
    ∙ ap (λ n. map Column (range_with_len c.args.start (n - c.args.start))) (c.min.ensures ∙ ap (min c.args.end) counted) in
    IfOk-weaker c.with_outside.result _ _ (λ grouped is. subst (AreGroups grid.rows grid.columns _) (sym (is ∙ ap₂ (λ es n. map once es ++ groups_outside n) inside over)) (grouped-columns grid.rows grid.columns (inr low) c.args.start c.args.end)) c.with_outside.ensures
