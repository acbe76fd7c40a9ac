use Rattle.tabled_grid.specs.declared.records.axis.Axis.TheVariants.{Columns, Rows}
use Rattle.tabled_steps.specs.declared.step.Step.TheVariants as step
use Rattle.tabled_steps.proofs.Acts.{acts}
use Rattle.tabled_steps.proofs.laws.steps_do_what_cell_options_do.Goals as goal

pub returns : goal.returns
returns g c =
    let text_of = g.R.Cell.CellText.text_of in
    record {
      lists = λ select. (λ old items. ((λ names. names), λ names. names));
      set = λ text select. acts g.R.Cell.Blank.is_blank text_of (step.Set select text);
      charset = λ charset select. acts g.R.Cell.Blank.is_blank text_of (step.Charset charset select);
      wrap = λ how select. acts g.R.Cell.Blank.is_blank text_of (step.Wrap how select);
      truncate = λ how select. acts g.R.Cell.Blank.is_blank text_of (step.Truncate how select);
      column_span = λ size select. acts g.R.Cell.Blank.is_blank text_of (step.ColumnSpan size select);
      row_span = λ size select. acts g.R.Cell.Blank.is_blank text_of (step.RowSpan size select);
      vertical = λ _ select. acts g.R.Cell.Blank.is_blank text_of (step.Merge Rows select);
      horizontal = λ _ select. acts g.R.Cell.Blank.is_blank text_of (step.Merge Columns select);
    }
