use Rattle.tabled_table.proofs.Common.{◌∙◌, ◌≡◌, ap, filter, map, only_columns, refl, row_has_text, row_texts, rows_written, take, text_columns, texts_taken}
use Rattle.std.specs.Vec.{with_items}
use Rattle.tabled_table.proofs.Cleaned.{even-cleaned}
use Rattle.tabled_table.proofs.builder.table_builder.Builder.clean.Goals as goal
use Rattle.tabled_table.proofs.builder.table_builder.Builder.clean.Goals.{After-retain_texts}

-- the rows that are left
left : (c : After-retain_texts) → row_texts c.retain_texts.new.rows.items ≡ filter row_has_text (only_columns (text_columns c.self.inside.count_columns (row_texts c.self.inside.rows.items)) (row_texts c.self.inside.rows.items))
left c =
    let n = c.self.inside.count_columns in
    let once = with_items c.self.inside.rows c.gather-kept.new.rows in
    c.retain_texts.ensures
    ∙ ap (filter row_has_text) (rows_written once c.truncate_each.new.rows (c.truncate_each.auto.rows ∙ c.deref_mut-2.ensures.len)
    ∙ texts_taken _ _ c.gather-kept.result c.truncate_each.ensures
    ∙ ap (λ rows. map (take c.gather-kept.result) (row_texts rows)) c.deref_mut-2.ensures.value
    ∙ ap (map (take c.gather-kept.result)) (rows_written c.self.inside.rows c.gather-kept.new.rows (c.gather-kept.auto.rows ∙ c.deref_mut.ensures.len))
    ∙ c.gather-kept.ensures.front
    ∙ ap (λ rows. only_columns (text_columns n (row_texts rows)) (row_texts rows)) c.deref_mut.ensures.value)

pub invariant_of-self : goal.invariant_of-self
invariant_of-self c =
    let rows = row_texts c.self.inside.rows.items in
    rw (left (goal.at.invariant_of-self c).After-retain_texts, c.gather-kept.ensures.count, c.deref_mut.ensures.value) (even-cleaned (text_columns c.self.inside.count_columns rows) rows row_has_text)

pub returns : goal.returns
returns c = rw (← c.self.view_is, left (goal.at.returns c).After-retain_texts, c.gather-kept.ensures.count, c.deref_mut.ensures.value) refl
