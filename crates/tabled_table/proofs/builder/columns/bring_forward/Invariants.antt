use Rattle.tabled_table.proofs.Common.{◌+◌, ◌≡◌, ◌≤◌, brought_forward, drop, map, string_bytes}
use Rattle.tabled_table.proofs.builder.columns.bring_forward.Given as goal

abbrev pub invariant-loop-i : goal.invariant-loop-i
invariant-loop-i l = record {
  below : l.front ≤ l.start + l.i;
  left : brought_forward (drop l.i l.marks) l.front (l.start + l.i) (map string_bytes l.row) ≡ brought_forward l.marks l.kept l.start (map string_bytes l.fn.row);
}
