use Rattle.tabled_settings.proofs.RearrangedFits.{split_keeps}
use Rattle.tabled_settings.proofs.laws.splits_keep_merged_cells_fitting.Goals as goal

pub returns : goal.returns
returns g c = record { table = split_keeps g.R.Cell.Blank.is_blank g.R.Cell.CellText.text_of c.args._split }
