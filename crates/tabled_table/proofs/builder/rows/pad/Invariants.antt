use Rattle.tabled_table.proofs.Common.{◌-◌, ◌≡◌, map, padded_to, string_bytes, take, vec_len}
use Rattle.tabled_table.proofs.builder.rows.pad.Given as goal

abbrev pub invariant-loop-alloc : goal.invariant-loop-alloc
invariant-loop-alloc l = record {
  padded : padded_to l.columns l.empty (map string_bytes l.row.items) ≡ padded_to l.columns l.empty (map string_bytes l.fn.row.items);
  front : take (vec_len l.fn.row) (map string_bytes l.row.items) ≡ map string_bytes l.fn.row.items;
}

abbrev pub decreases-loop-alloc : goal.decreases-loop-alloc
decreases-loop-alloc l = l.columns - vec_len l.row
