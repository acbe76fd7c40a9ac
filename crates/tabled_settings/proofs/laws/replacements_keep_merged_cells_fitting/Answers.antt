use Rattle.tabled_settings.proofs.Common.{Global, writes_keep}
use Rattle.tabled_settings.specs.Replaced.{replace_writes}
use Rattle.tabled_settings.proofs.laws.replacements_keep_merged_cells_fitting.Goals as goal

pub returns : goal.returns
returns g c = record {
  cells = λ e. writes_keep g.R.Cell.CellText.text_of (replace_writes c.args._replace.from.now c.args._replace.to.now e);
  table = writes_keep g.R.Cell.CellText.text_of (replace_writes c.args._replace.from.now c.args._replace.to.now Global);
}
