use Rattle.tabled_table.proofs.Common.{[], ◌∙◌, ◌≡◌, ap, arith, longest, map, padded_to, row_texts, rows_written}
use Rattle.tabled_table.proofs.Uneven.{even-longest}
use Rattle.tabled_table.proofs.builder.table_builder.Builder.from_cells.Goals as goal

pub invariant_of-result : goal.invariant_of-result
invariant_of-result c =
    let n = c.longest-count_columns.result in
    let rows = row_texts c.args.rows.items in
    let texts = rows_written c.args.rows c.try_pad_each.new.rows (c.try_pad_each.auto.rows ∙ c.deref_mut.ensures.len) ∙ c.in_ok-try_pad_each.ensures.ok ∙ ap (λ rs. map (padded_to n []) (row_texts rs)) c.deref_mut.ensures.value in
    let most : n ≡ longest rows = c.longest-count_columns.ensures ∙ ap (λ rs. longest (row_texts rs)) c.deref.ensures.value in
    rw texts (even-longest n [] rows (omega arith))
