use Rattle.tabled_table.proofs.Common.{◌≡◌, ChangedBy, List, column_of, drop, map, remove, row_texts, string_bytes, take, texts_of, ℕ}
use Rattle.tabled_table.proofs.builder.columns.take_column.Given as goal

abbrev pub invariant-loop-row : goal.invariant-loop-row
invariant-loop-row l = record {
  rows : ChangedBy texts_of (λ (texts : List (List ℕ)). remove texts l.j) l.fn.rows l.rows l.row-index;
  rest : drop l.row-index l.rows ≡ drop l.row-index l.fn.rows;
  column : map string_bytes l.column.items ≡ column_of (take l.row-index (row_texts l.fn.rows)) l.j;
}
