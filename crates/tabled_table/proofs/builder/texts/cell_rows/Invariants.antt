use Rattle.tabled_table.proofs.Common.{◌++◌, ◌≡◌, into_iter_items, row_texts}
use Rattle.tabled_table.proofs.builder.texts.cell_rows.Given as goal

abbrev pub invariant-loop-row : goal.invariant-loop-row
invariant-loop-row l = row_texts l.all.items ++ row_texts (into_iter_items l.row-iterator) ≡ row_texts l.fn.rows.items
