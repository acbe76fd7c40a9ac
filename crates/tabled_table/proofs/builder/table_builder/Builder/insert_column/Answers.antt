use Rattle.tabled_table.proofs.Common.{◌+◌, ◌∙◌, ◌≡◌, ◌≤◌, All-lens, ap, ap₂, arith, even-with_items, length, map, padded_to, refl, row_texts, rows_written, string_bytes, sym, take, take-map, vec_len-rows, with_items}
use Rattle.tabled_table.proofs.builder.table_builder.Builder.insert_column.Goals as goal

pub insert_items-requires-clause-within : goal.insert_items-requires-clause-within
insert_items-requires-clause-within g c = rw c.deref_mut.ensures.value (All-lens (λ n. c.args.j ≤ n) c.self.inside.count_columns c.self.inside.rows.items (rw (← c.self.view_is) at c.requires.within) c.self.invariant)

pub invariant_of-self-2 : goal.invariant_of-self-2
invariant_of-self-2 g c =
    let wider : c.in_ok-wider.wider ≡ c.self.inside.count_columns + 1 = grind (arith) in
    let texts = rows_written c.self.inside.rows c.insert_items.new.rows (c.insert_items.auto.rows ∙ c.deref_mut.ensures.len) ∙ c.in_ok-insert_items.ensures.ok ∙ ap (λ rows. with_items c.args.j (row_texts rows) (map string_bytes c.pad.new.row.items)) c.deref_mut.ensures.value in
    rw (wider, texts) (even-with_items c.self.inside.count_columns c.args.j (row_texts c.self.inside.rows.items) _ (rw (← c.self.view_is) at c.requires.within) c.self.invariant)

pub returns-clause-ok : goal.returns-clause-ok
returns-clause-ok g c =
    let given = c.in_ok-items.ensures in
    let wider : c.in_ok-wider.wider ≡ c.self.inside.count_columns + 1 = grind (arith) in
    let rows = c.self.inside.rows.items in
    let empty = string_bytes c.self.inside.empty_text in
    let count : c.len-count.result ≡ length (row_texts rows) = c.len-count.ensures ∙ vec_len-rows c.self.inside.rows in
    let items : map string_bytes c.pad.new.row.items ≡ padded_to (length (row_texts rows)) empty (take (length (row_texts rows)) (map string_bytes given.1)) =
    c.in_ok-pad.ensures.ok
    ∙ ap₂ (λ e ts. padded_to c.len-count.result e ts) c.as_str.ensures.value (ap (map string_bytes) c.truncate.ensures.items ∙ sym (take-map string_bytes c.len-count.result c.in_ok-items.items.items) ∙ ap (take c.len-count.result) given.4)
    ∙ ap (λ n. padded_to n empty (take n (map string_bytes given.1))) count in
    let texts = rows_written c.self.inside.rows c.insert_items.new.rows (c.insert_items.auto.rows ∙ c.deref_mut.ensures.len) ∙ c.in_ok-insert_items.ensures.ok ∙ ap₂ (λ rs ts. with_items c.args.j (row_texts rs) ts) c.deref_mut.ensures.value items in
    (given.0, given.1, given.2, given.3, rw (← c.self.view_is, wider, texts) refl)
