use Rattle.tabled_settings.proofs.RearrangedFits.{join_keeps}
use Rattle.tabled_settings.proofs.laws.joins_keep_merged_cells_fitting.Goals as goal

pub returns : goal.returns
returns g c = record { table = join_keeps g.R.Cell.Blank.is_blank g.R.Cell.CellText.text_of c.args._concat.now.0 c.args._concat.now.1 c.args._concat.now.2 }
