use Rattle.tabled_steps.specs.declared.step.Step.TheVariants as step
use Rattle.tabled_steps.proofs.Acts.{acts}
use Rattle.tabled_steps.proofs.laws.steps_do_what_options_do.Goals as goal

pub returns : goal.returns
returns g c =
    let text_of = g.R.Cell.CellText.text_of in
    record {
      horizontal_panel = λ panel. acts g.R.Cell.Blank.is_blank text_of (step.HorizontalPanel panel);
      vertical_panel = λ panel. acts g.R.Cell.Blank.is_blank text_of (step.VerticalPanel panel);
      header = λ text. acts g.R.Cell.Blank.is_blank text_of (step.Header text);
      footer = λ text. acts g.R.Cell.Blank.is_blank text_of (step.Footer text);
      merge_vertical = λ merge. acts g.R.Cell.Blank.is_blank text_of (step.MergeVertical merge);
      merge_horizontal = λ merge. acts g.R.Cell.Blank.is_blank text_of (step.MergeHorizontal merge);
      rotate = λ rotate. acts g.R.Cell.Blank.is_blank text_of (step.Rotate rotate);
      reverse = λ reverse. acts g.R.Cell.Blank.is_blank text_of (step.Reverse reverse);
      sort = λ sort. acts g.R.Cell.Blank.is_blank text_of (step.Sort sort);
      split = λ split. acts g.R.Cell.Blank.is_blank text_of (step.Split split);
      concat = λ concat. acts g.R.Cell.Blank.is_blank text_of (step.Concat concat);
    }
