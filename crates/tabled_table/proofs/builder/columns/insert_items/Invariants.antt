use Rattle.tabled_table.proofs.Common.{◌++◌, ◌≡◌, drop, into_iter_items, map, row_texts, string_bytes, take, with_items}
use Rattle.tabled_table.proofs.builder.columns.insert_items.Given as goal

abbrev pub invariant-loop-row : goal.invariant-loop-row
invariant-loop-row l = record {
  rows : row_texts (take l.row-index l.rows) ++ with_items l.j (row_texts (drop l.row-index l.rows)) (map string_bytes (into_iter_items l.items)) ≡ with_items l.j (row_texts l.initial.rows) (map string_bytes l.fn.items.items);
  rest : drop l.row-index l.rows ≡ drop l.row-index l.initial.rows;
  items : into_iter_items l.items ≡ drop l.row-index l.fn.items.items;
}
