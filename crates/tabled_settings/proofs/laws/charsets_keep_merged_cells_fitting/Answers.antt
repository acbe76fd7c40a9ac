use Rattle.tabled_settings.proofs.Common.{Global, charset_writes, writes_keep}
use Rattle.tabled_settings.proofs.laws.charsets_keep_merged_cells_fitting.Goals as goal

pub returns : goal.returns
returns g c = record {
  cells = λ e. writes_keep g.R.Cell.CellText.text_of (charset_writes c.args._charset.now e);
  table = writes_keep g.R.Cell.CellText.text_of (charset_writes c.args._charset.now Global);
}
