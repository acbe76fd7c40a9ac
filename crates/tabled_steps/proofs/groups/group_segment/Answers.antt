use Rattle.tabled_steps.proofs.Common.{◌-◌, ◌^◌, ◌∙◌, ◌≤◌, AreGroups, Range, ap, arith, block, cells_of, inl, inr, map, min, once, segment_cells, subst, sym, ℕ}
use Rattle.tabled_steps.proofs.Outside.{each_once, segment_at}
use Rattle.tabled_steps.proofs.groups.group_segment.Goals as goal

pub returns-then-columns-all_columns : goal.returns-then-columns-all_columns
returns-then-columns-all_columns g c =
    let grid = g.R.GridStore.grid c.args.records.now in
    let listed = c.in_ok-entities.ensures ∙ ap (λ (s : Range ℕ × Range ℕ). cells_of (block s.0.start s.0.end s.1.start s.1.end)) c.new-segment.ensures in
    subst (λ es. AreGroups grid.rows grid.columns (segment_cells c.args.rows c.args.columns) (map once es)) (sym listed) (each_once grid.rows grid.columns (segment_cells c.args.rows c.args.columns))

pub returns : goal.returns
returns g c =
    let grid = g.R.GridStore.grid c.args.records.now in
    let counted = c.count_rows-all_rows.ensures.rows in
    let low : grid.rows ≤ 2 ^ 64 - 1 = omega (arith, counted, c.count_rows-all_rows.type_inv) in
    let within = c.min-within.ensures ∙ ap (min c.args.columns.1) c.count_columns-all_columns.ensures.columns in
    segment_at grid.rows grid.columns (inl low) c.args.rows c.args.columns c.if-columns-within.rows_within c.min-within.result c.in_ok-segment_parts.field-0.items within
    (elim c.if-columns-within.branch [
      | goal.then-columns-within w ↦ inl (w.if-columns-within.true, w.rows_within-is ∙ w.min-rows_within.ensures ∙ ap (min c.args.rows.1) counted)
      | goal.else-columns-within w ↦ inr (w.if-columns-within.false, w.rows_within-is)
    ])
    c.in_ok-segment_parts.ensures
