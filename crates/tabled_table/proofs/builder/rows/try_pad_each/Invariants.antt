use Rattle.tabled_table.proofs.Common.{◌≡◌, AreWide, ChangedBy, map, padded_to, row_texts, take, texts_of, ℕ}
use Rattle.tabled_table.proofs.builder.rows.try_pad_each.Given as goal

abbrev pub invariant-loop-row : goal.invariant-loop-row
invariant-loop-row l = record {
  padded : ChangedBy texts_of (padded_to l.columns l.empty) l.fn.rows l.rows l.row-index;
  front : (from : ℕ) → AreWide from (row_texts l.fn.rows) → map (take from) (row_texts l.rows) ≡ row_texts l.fn.rows;
}
