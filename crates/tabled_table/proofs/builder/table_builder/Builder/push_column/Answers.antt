use Rattle.tabled_table.proofs.Common.{◌+◌, ◌∙◌, ◌≡◌, ap, ap₂, arith, even-with_items, length, map, padded_to, row_texts, string_bytes, vec_len-rows, vec_len-texts}
use Rattle.tabled_table.proofs.Padded.{even-more}
use Rattle.tabled_table.proofs.Records.{with_last_column-padded}
use Rattle.tabled_table.proofs.builder.table_builder.Builder.push_column.Goals as goal

pub invariant_of-self-2 : goal.invariant_of-self-2
invariant_of-self-2 g c =
    let columns = c.self.inside.count_columns in
    let wider : c.in_ok-wider.wider ≡ columns + 1 = grind (arith) in
    rw (wider, c.in_ok-push_items.ensures.ok) (even-with_items columns columns _ _ (omega arith) (even-more columns _ _ (row_texts c.self.inside.rows.items) c.self.invariant))

pub returns-clause-ok : goal.returns-clause-ok
returns-clause-ok g c =
    let given = c.in_ok-items.ensures in
    let columns = c.self.inside.count_columns in
    let wider : c.in_ok-wider.wider ≡ columns + 1 = grind (arith) in
    let row = c.pad.new.row in
    let items : map string_bytes row.items ≡ padded_to (length (row_texts c.self.inside.rows.items)) (string_bytes c.self.inside.empty_text) (map string_bytes given.1) =
    c.in_ok-pad.ensures.ok
    ∙ ap₂ (λ e ts. padded_to c.len-count.result e ts) c.as_str-empty.ensures.value given.4
    ∙ ap (λ n. padded_to n (string_bytes c.self.inside.empty_text) (map string_bytes given.1)) (c.len-count.ensures ∙ vec_len-rows c.self.inside.rows) in
    (given.0, given.1, given.2, given.3, rw (← c.self.view_is, wider, c.in_ok-push_items.ensures.ok, c.as_str-empty.ensures.value) (with_last_column-padded _ _ _ (map string_bytes row.items) items (vec_len-texts row)))
