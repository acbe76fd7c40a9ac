use Rattle.tabled_options.proofs.Common.{text_writes}
use Rattle.tabled_options.proofs.Shapes.{writes_keep}
use Rattle.tabled_options.proofs.laws.lent_texts_keep_merged_cells_fitting.Goals as goal

pub returns : goal.returns
returns g c = record { cells = λ e. writes_keep g.R.Cell.CellText.text_of (text_writes c.args._text.0.now e) }
