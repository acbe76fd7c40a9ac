use Rattle.tabled_settings.proofs.Common.{Global, writes_keep}
use Rattle.tabled_settings.specs.Wraps.{wrap_writes}
use Rattle.tabled_settings.proofs.laws.wraps_keep_merged_cells_fitting.Goals as goal

pub returns : goal.returns
returns g c = record {
  cells = λ e. writes_keep g.R.Cell.CellText.text_of (wrap_writes c.args._wrap.now e);
  table = writes_keep g.R.Cell.CellText.text_of (wrap_writes c.args._wrap.now Global);
}
