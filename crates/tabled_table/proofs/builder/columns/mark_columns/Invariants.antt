use Rattle.tabled_table.proofs.Common.{◌+◌, ◌||◌, ◌≡◌, EachIndex, drop, false, get_or, has_text_in, row_texts}
use Rattle.tabled_table.proofs.builder.columns.mark_columns.Given as goal

abbrev pub invariant-loop-row : goal.invariant-loop-row
invariant-loop-row l = EachIndex l.marks (λ k. (get_or l.marks k false || has_text_in (row_texts (drop l.row-index l.rows)) (l.start + k)) ≡ has_text_in (row_texts l.rows) (l.start + k))
