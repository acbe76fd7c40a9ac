use Rattle.tabled_table.proofs.Common.{◌∙◌, ap, insert, map, map-insert, padded_to, row_texts, rows_written, string_bytes, texts_of, vec_len}
use Rattle.tabled_table.proofs.builder.rows.insert_row.Goals as goal

pub returns-clause-ok : goal.returns-clause-ok
returns-clause-ok c =
    let padded =
    rows_written c.reserve.new.self c.pad_each.new.rows (c.pad_each.auto.rows ∙ c.deref_mut.ensures.len)
    ∙ c.in_ok-pad_each.ensures.ok
    ∙ ap (λ n. map (padded_to n c.args.empty.now) (row_texts c.deref_mut.result.now)) c.len.ensures
    ∙ ap (λ rows. map (padded_to (vec_len c.args.row) c.args.empty.now) (row_texts rows)) (c.deref_mut.ensures.value ∙ c.reserve.ensures.items) in
    ap row_texts (rw c.unwrap.ensures at c.insert.ensures.items)
    ∙ map-insert texts_of _ c.args.i c.args.row
    ∙ ap (λ rows. insert rows c.args.i (map string_bytes c.args.row.items)) padded
