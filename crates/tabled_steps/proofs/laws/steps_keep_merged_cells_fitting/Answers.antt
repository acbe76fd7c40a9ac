use Rattle.tabled_steps.proofs.Fitting.{step_keeps}
use Rattle.tabled_steps.proofs.laws.steps_keep_merged_cells_fitting.Goals as goal

pub returns : goal.returns
returns g c = record { table = step_keeps g.R.Cell.Blank.is_blank g.R.Cell.CellText.text_of c.args._step.now }
