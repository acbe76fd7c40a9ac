use Rattle.tabled_settings.proofs.Common.{Global, writes_keep}
use Rattle.tabled_settings.specs.Truncates.{truncate_writes}
use Rattle.tabled_settings.proofs.laws.truncates_keep_merged_cells_fitting.Goals as goal

pub returns : goal.returns
returns g c = record {
  cells = λ e. writes_keep g.R.Cell.CellText.text_of (truncate_writes c.args._truncate.width c.args._truncate.suffix.now e);
  table = writes_keep g.R.Cell.CellText.text_of (truncate_writes c.args._truncate.width c.args._truncate.suffix.now Global);
}
