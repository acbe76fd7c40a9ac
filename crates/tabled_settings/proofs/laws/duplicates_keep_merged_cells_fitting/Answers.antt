use Rattle.tabled_settings.proofs.WritersKeep.{duplicates_keep}
use Rattle.tabled_settings.proofs.laws.duplicates_keep_merged_cells_fitting.Goals as goal

pub returns : goal.returns
returns g c = record { table = duplicates_keep g.R.Cell.CellText.text_of (g.Dst.Object.lists c.args._dup.now.0) (g.Src.Object.lists c.args._dup.now.1) }
