use Rattle.tabled_steps.proofs.AfterSteps.{after_each, after_step}
use Rattle.tabled_steps.proofs.laws.steps_do_what_their_formulas_say.Goals as goal

pub returns : goal.returns
returns g c = record { one = after_step g.R.Cell.CellText.text_of g.R.Cell.Blank.is_blank; all = after_each g.R.Cell.CellText.text_of g.R.Cell.Blank.is_blank }
