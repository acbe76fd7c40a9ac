use Rattle.tabled_steps.proofs.Common.{◌*◌, ◌-◌, ◌∙◌, ◌≡◌, ap, ap₂, arith, row_groups}
use Rattle.tabled_steps.proofs.Outside.{rows_end, rows_more}
use Rattle.tabled_steps.proofs.groups.segment_parts.Goals as goal

pub loop-i-preserved : goal.loop-i-preserved
loop-i-preserved c = record {
  bounded = omega arith;
  so_far = rows_more (row_groups c.args.columns c.args.within) c.args.rows.0 c.loop-i.i c.loop-i.groups.items _ c.loop-i.auto.i c.loop-i.invariant.so_far c.in_ok-push_row.ensures;
}

pub returns : goal.returns
returns c =
    let all : c.loop-i.i - c.args.rows.0 ≡ c.args.rows_within - c.args.rows.0 = omega (arith, c.loop-i-test.false, c.loop-i.invariant.bounded, c.loop-i.auto.i) in
    let many = ap₂ (λ m n. m * n) (c.saturating_sub-tall.ensures ∙ ap (λ n. c.args.rows.1 - n) c.max.ensures) c.saturating_sub-wide.ensures in
    rows_end (row_groups c.args.columns c.args.within) c.args.rows.0 c.loop-i.i c.args.rows_within (c.saturating_sub-tall.result * c.saturating_sub-wide.result) _ c.loop-i.groups.items c.push_outside.new.groups.items all many c.loop-i.invariant.so_far c.in_ok-push_outside.ensures
