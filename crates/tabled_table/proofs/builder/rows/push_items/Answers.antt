use Rattle.tabled_table.proofs.Common.{◌∙◌, ◌≡◌, ◌≤◌, All-lens, ap, arith, padded_to, replicate, row_texts, rows_written, rules, sym, take, take-map, texts_of, vec_len}
use Rattle.tabled_table.proofs.Padded.{even-more}
use Rattle.tabled_table.proofs.builder.rows.push_items.Goals as goal

pub insert_items-requires-clause-within : goal.insert_items-requires-clause-within
insert_items-requires-clause-within c =
    let blank = replicate c.args.columns c.args.empty.now in
    let padded : row_texts c.pad_rows.new.rows.items ≡ padded_to (vec_len c.args.items) blank (row_texts c.args.rows.now.items) = search rules in
    rw c.deref_mut.ensures.value (All-lens (λ n. c.args.columns ≤ n) c.args.columns c.pad_rows.new.rows.items (omega arith) (rw padded (even-more c.args.columns _ c.args.empty.now _ c.requires.even)))

pub returns-then-is_err-clause-err : goal.returns-then-is_err-clause-err
returns-then-is_err-clause-err c =
    let rows = c.then-is_err.rows.items in
    let front : take (vec_len c.args.rows.now) (row_texts rows) ≡ row_texts c.args.rows.now.items =
    elim c.then-is_err.branch [
      | goal.then-is_err-via-then-is_err w ↦ rw w.rows-is c.pad_rows.ensures.front
      | goal.then-is_err-via-else-is_err+then-is_err-2 w ↦
          let kept : row_texts w.insert_items.new.rows ≡ row_texts w.deref_mut.result.now = search rules in
          rw (w.rows-is, rows_written c.pad_rows.new.rows w.insert_items.new.rows (w.insert_items.auto.rows ∙ w.deref_mut.ensures.len), kept, w.deref_mut.ensures.value) c.pad_rows.ensures.front
    ] in
    ap row_texts c.truncate.ensures.items ∙ sym (take-map texts_of c.len-count.result rows) ∙ ap (λ n. take n (row_texts rows)) c.len-count.ensures ∙ front
