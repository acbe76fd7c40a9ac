use Rattle.tabled_steps.proofs.Common.{Columns, IfErr-weaker, Rows, inr, is_set, on_err_weaker, on_ok_weaker, recoded, rules, string_bytes, w64, wrapped}
use Rattle.std.proofs.lemmas.Int.{to_z-of_z}
use mir.Val.{SFits}
use Rattle.tabled_steps.proofs.LocalChanges.{local_change}
use Rattle.tabled_steps.proofs.RepresentedPlaces.{duplicated_represented, duplicated_represented_refused}
use Rattle.tabled_steps.specs.Kinds.{Merge, Rewrite, RewriteIf, Span}
use Rattle.tabled_settings.specs.Replaced.{replaced_text}
use Rattle.tabled_settings.specs.Truncates.{truncated}
use Rattle.tabled_steps.proofs.step.Step.+apply.Goals as goal

pub change_each-requires-clause-local : goal.change_each-requires-clause-local
change_each-requires-clause-local g n c = local_change g.R.Cell.CellText.text_of (Rewrite (λ _. string_bytes c.in-Set.text))

pub returns-in-Dup-clause-ok : goal.returns-in-Dup-clause-ok
returns-in-Dup-clause-ok g n c = rw c.in-Dup.is (on_ok_weaker c.change.result (λ did. duplicated_represented g.R.Cell.CellText.text_of c.in-Dup.destination c.in-Dup.source _ _ _ _ did) (rw c.new.ensures at c.change.ensures.ok))

pub returns-in-Dup-clause-err : goal.returns-in-Dup-clause-err
returns-in-Dup-clause-err g n c = rw c.in-Dup.is (on_err_weaker c.change.result (λ left. duplicated_represented_refused g.R.Cell.CellText.text_of c.in-Dup.destination c.in-Dup.source _ _ _ _ left) (rw c.new.ensures at c.change.ensures.err))

pub change_each-requires-in-Charset-clause-local : goal.change_each-requires-in-Charset-clause-local
change_each-requires-in-Charset-clause-local g n c = local_change g.R.Cell.CellText.text_of (RewriteIf (is_set c.in-Charset.charset) (recoded c.in-Charset.charset))

pub change_each-requires-in-Wrap-clause-local : goal.change_each-requires-in-Wrap-clause-local
change_each-requires-in-Wrap-clause-local g n c = local_change g.R.Cell.CellText.text_of (Rewrite (wrapped c.in-Wrap.wrap))

pub change_each-requires-in-Truncate-clause-local : goal.change_each-requires-in-Truncate-clause-local
change_each-requires-in-Truncate-clause-local g n c = local_change g.R.Cell.CellText.text_of (Rewrite (truncated c.in-Truncate.truncate.width c.in-Truncate.truncate.suffix.now))

pub change_each-requires-in-Replace-clause-local : goal.change_each-requires-in-Replace-clause-local
change_each-requires-in-Replace-clause-local g n c = local_change g.R.Cell.CellText.text_of (Rewrite (replaced_text c.new-replace.result.from.now c.new-replace.result.to.now))

pub change_each-requires-in-ColumnSpan-clause-local : goal.change_each-requires-in-ColumnSpan-clause-local
change_each-requires-in-ColumnSpan-clause-local g n c = local_change g.R.Cell.CellText.text_of (Span Columns c.column.result)

pub change_each-requires-in-RowSpan-clause-local : goal.change_each-requires-in-RowSpan-clause-local
change_each-requires-in-RowSpan-clause-local g n c = local_change g.R.Cell.CellText.text_of (Span Rows c.row.result)

pub returns-in-ColumnSpan-clause-ok : goal.returns-in-ColumnSpan-clause-ok
returns-in-ColumnSpan-clause-ok g n c =
    let fits : SFits w64 c.in-ColumnSpan.size = search rules in
    rw c.in-ColumnSpan.is (rw (c.column.ensures, to_z-of_z w64 c.in-ColumnSpan.size fits) at c.change_each-in-ColumnSpan.ensures.ok)

pub returns-in-ColumnSpan-clause-err : goal.returns-in-ColumnSpan-clause-err
returns-in-ColumnSpan-clause-err g n c =
    let fits : SFits w64 c.in-ColumnSpan.size = search rules in
    rw c.in-ColumnSpan.is (rw (c.column.ensures, to_z-of_z w64 c.in-ColumnSpan.size fits) at c.change_each-in-ColumnSpan.ensures.err)

pub returns-in-RowSpan-clause-ok : goal.returns-in-RowSpan-clause-ok
returns-in-RowSpan-clause-ok g n c =
    let fits : SFits w64 c.in-RowSpan.size = search rules in
    rw c.in-RowSpan.is (rw (c.row.ensures, to_z-of_z w64 c.in-RowSpan.size fits) at c.change_each-in-RowSpan.ensures.ok)

pub returns-in-RowSpan-clause-err : goal.returns-in-RowSpan-clause-err
returns-in-RowSpan-clause-err g n c =
    let fits : SFits w64 c.in-RowSpan.size = search rules in
    rw c.in-RowSpan.is (rw (c.row.ensures, to_z-of_z w64 c.in-RowSpan.size fits) at c.change_each-in-RowSpan.ensures.err)

pub change_each-requires-in-Rows-clause-local : goal.change_each-requires-in-Rows-clause-local
change_each-requires-in-Rows-clause-local g n c = local_change g.R.Cell.CellText.text_of (Merge Rows)

pub change_each-requires-in-Columns-clause-local : goal.change_each-requires-in-Columns-clause-local
change_each-requires-in-Columns-clause-local g n c = local_change g.R.Cell.CellText.text_of (Merge Columns)

pub returns-in-Rows-clause-ok : goal.returns-in-Rows-clause-ok
returns-in-Rows-clause-ok g n c = rw (c.in-Merge.is, c.in-Rows.is) c.change_each-in-Rows.ensures.ok

pub returns-in-Rows-clause-err : goal.returns-in-Rows-clause-err
returns-in-Rows-clause-err g n c = rw (c.in-Merge.is, c.in-Rows.is) c.change_each-in-Rows.ensures.err

pub returns-in-Rows-clause-promised : goal.returns-in-Rows-clause-promised
returns-in-Rows-clause-promised g n c = rw (c.in-Merge.is, c.in-Rows.is) c.change_each-in-Rows.ensures.promised

pub returns-in-Columns-clause-ok : goal.returns-in-Columns-clause-ok
returns-in-Columns-clause-ok g n c = rw (c.in-Merge.is, c.in-Columns.is) c.change_each-in-Columns.ensures.ok

pub returns-in-Columns-clause-err : goal.returns-in-Columns-clause-err
returns-in-Columns-clause-err g n c = rw (c.in-Merge.is, c.in-Columns.is) c.change_each-in-Columns.ensures.err

pub returns-in-Columns-clause-promised : goal.returns-in-Columns-clause-promised
returns-in-Columns-clause-promised g n c = rw (c.in-Merge.is, c.in-Columns.is) c.change_each-in-Columns.ensures.promised

pub returns-in-HorizontalPanel-clause-ok : goal.returns-in-HorizontalPanel-clause-ok
returns-in-HorizontalPanel-clause-ok g n c = rw c.in-HorizontalPanel.is c.change-in-HorizontalPanel.ensures.ok

pub returns-in-VerticalPanel-clause-ok : goal.returns-in-VerticalPanel-clause-ok
returns-in-VerticalPanel-clause-ok g n c = rw c.in-VerticalPanel.is c.change-in-VerticalPanel.ensures.ok

pub returns-in-Header-clause-ok : goal.returns-in-Header-clause-ok
returns-in-Header-clause-ok g n c = rw c.in-Header.is c.change-in-Header.ensures.ok

pub returns-in-Footer-clause-ok : goal.returns-in-Footer-clause-ok
returns-in-Footer-clause-ok g n c = rw c.in-Footer.is c.change-in-Footer.ensures.ok

pub returns-in-RemoveRows-clause-ok : goal.returns-in-RemoveRows-clause-ok
returns-in-RemoveRows-clause-ok g n c =
    rw c.in-RemoveRows.is (on_ok_weaker c.change-in-RemoveRows.result (λ d. rw (← d.located) d.rearranged) (rw (c.row-in-RemoveRows.ensures, c.new-in-RemoveRows.ensures) at c.change-in-RemoveRows.ensures.ok))

pub returns-in-RemoveColumns-clause-ok : goal.returns-in-RemoveColumns-clause-ok
returns-in-RemoveColumns-clause-ok g n c =
    rw c.in-RemoveColumns.is (on_ok_weaker c.change-in-RemoveColumns.result (λ d. rw (← d.located) d.rearranged) (rw (c.column-in-RemoveColumns.ensures, c.new-in-RemoveColumns.ensures) at c.change-in-RemoveColumns.ensures.ok))

pub returns-in-RemoveNamed-clause-ok : goal.returns-in-RemoveNamed-clause-ok
returns-in-RemoveNamed-clause-ok g n c =
    rw c.in-RemoveNamed.is (on_ok_weaker c.change-in-RemoveNamed.result (λ d. rw (← d.located) d.rearranged) (rw (c.column-in-RemoveNamed.ensures, c.new-in-RemoveNamed.ensures) at c.change-in-RemoveNamed.ensures.ok))

pub returns-in-KeepRows-clause-ok : goal.returns-in-KeepRows-clause-ok
returns-in-KeepRows-clause-ok g n c =
    rw c.in-KeepRows.is (on_ok_weaker c.change-in-KeepRows.result (λ d. rw (← d.located) d.rearranged) (rw c.rows.ensures at c.change-in-KeepRows.ensures.ok))

pub returns-in-KeepColumns-clause-ok : goal.returns-in-KeepColumns-clause-ok
returns-in-KeepColumns-clause-ok g n c =
    rw c.in-KeepColumns.is (on_ok_weaker c.change-in-KeepColumns.result (λ d. rw (← d.located) d.rearranged) (rw c.columns.ensures at c.change-in-KeepColumns.ensures.ok))

pub returns-in_ok-apply-in-Both-clause-ok : goal.returns-in_ok-apply-in-Both-clause-ok
returns-in_ok-apply-in-Both-clause-ok g n c =
    let first = rw c.into_inner.ensures at c.in_ok-apply-in-Both.ensures.ok in
    rw c.in-Both.is (on_ok_weaker c.apply-in-Both.result (λ second. (_, _, first, second)) (rw c.into_inner-in-Both.ensures at c.apply-in-Both.ensures.ok))

pub returns-in_ok-apply-in-Both-clause-err : goal.returns-in_ok-apply-in-Both-clause-err
returns-in_ok-apply-in-Both-clause-err g n c =
    let first = rw c.into_inner.ensures at c.in_ok-apply-in-Both.ensures.ok in
    rw c.in-Both.is (IfErr-weaker c.apply-in-Both.result _ _ (λ _ second. inr (_, _, first, second)) (rw c.into_inner-in-Both.ensures at c.apply-in-Both.ensures.err))

pub returns-in-Replace-clause-ok : goal.returns-in-Replace-clause-ok
returns-in-Replace-clause-ok g n c = rw c.in-Replace.is (rw (c.new-replace.ensures.from, c.new-replace.ensures.to, c.as_str.ensures.value, c.as_str-in-Replace.ensures.value) at c.change_each-in-Replace.ensures.ok)

pub returns-in-Replace-clause-err : goal.returns-in-Replace-clause-err
returns-in-Replace-clause-err g n c = rw c.in-Replace.is (rw (c.new-replace.ensures.from, c.new-replace.ensures.to, c.as_str.ensures.value, c.as_str-in-Replace.ensures.value) at c.change_each-in-Replace.ensures.err)
