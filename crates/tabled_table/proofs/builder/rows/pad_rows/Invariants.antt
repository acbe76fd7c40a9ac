use Rattle.tabled_table.proofs.Common.{◌-◌, ◌≡◌, padded_to, replicate, row_texts, take, vec_len}
use Rattle.tabled_table.proofs.builder.rows.pad_rows.Given as goal

abbrev pub invariant-loop-alloc : goal.invariant-loop-alloc
invariant-loop-alloc l = record {
  padded : padded_to l.count (replicate l.columns l.empty) (row_texts l.rows.items) ≡ padded_to l.count (replicate l.columns l.empty) (row_texts l.fn.rows.items);
  front : take (vec_len l.fn.rows) (row_texts l.rows.items) ≡ row_texts l.fn.rows.items;
}

abbrev pub decreases-loop-alloc : goal.decreases-loop-alloc
decreases-loop-alloc l = l.count - vec_len l.rows
