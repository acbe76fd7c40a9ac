use Rattle.tabled_steps.proofs.Common.{◌++◌, ◌-◌, ◌≡◌, ◌≤◌, cells_of, map, max, once, place, range_with_len}
use Rattle.tabled_steps.proofs.groups.push_row.Given as goal

abbrev pub invariant-loop-j : goal.invariant-loop-j
invariant-loop-j l = record {
  bounded : l.j ≤ max l.columns.0 l.within;
  so_far : l.groups.items ≡ l.fn.groups.items ++ map once (cells_of (map (place l.i) (range_with_len l.columns.0 (l.j - l.columns.0))));
}
