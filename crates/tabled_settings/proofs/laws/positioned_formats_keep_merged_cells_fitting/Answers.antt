use Rattle.tabled_settings.proofs.Common.{Global}
use Rattle.tabled_settings.proofs.WritersKeep.{rewrites_keep}
use Rattle.tabled_settings.proofs.laws.positioned_formats_keep_merged_cells_fitting.Goals as goal

pub returns : goal.returns
returns g c = record {
  cells = λ e. rewrites_keep g.R.Cell.CellText.text_of _ c.args._format.now e;
  table = rewrites_keep g.R.Cell.CellText.text_of _ c.args._format.now Global;
}
