use Rattle.std.specs.Prelude.{◌≡◌, ◌++◌, length}
use Rattle.std.specs.Vec.Iter.{into_iter_items, into_iter_len}
use Rattle.tabled_texts.specs.Texts.{rows_of}
use Rattle.tabled_language.specs.Lent.{texts_in_records}
use Rattle.tabled_script.proofs.lending.lent_rows.Given as goal

abbrev pub invariant-loop-row : goal.invariant-loop-row
invariant-loop-row l = record {
  can : goal.iterator-loop-row.can_next l.row-iterator;
  ends : goal.iterator-loop-row.is_finite l.row-iterator;
  counted : into_iter_len l.row-iterator ≡ length (into_iter_items l.row-iterator);
  leads : texts_in_records l.records.items ++ rows_of (into_iter_items l.row-iterator) ≡ rows_of l.fn.rows.items;
}
