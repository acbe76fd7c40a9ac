use Rattle.tabled_steps.proofs.Common.{◌-◌, ◌≡◌, ◌≤◌, flat_map, max, range_with_len, row_groups}
use Rattle.tabled_steps.proofs.groups.segment_parts.Given as goal

abbrev pub invariant-loop-i : goal.invariant-loop-i
invariant-loop-i l = record {
  bounded : l.i ≤ max l.fn.rows.0 l.fn.rows_within;
  so_far : l.groups.items ≡ flat_map (row_groups l.fn.columns l.fn.within) (range_with_len l.fn.rows.0 (l.i - l.fn.rows.0));
}
