use Rattle.tabled_spans.proofs.Common.{Columns, Fits, IsFlat, Rows}
use Rattle.tabled_spans.proofs.SpanGeometry.{flat_spanned, option_keeps}
use Rattle.tabled_spans.proofs.laws.spans_along_lines_fit.Goals as goal

pub returns : goal.returns
returns g c = record {
  columns = λ e. option_keeps g.R.Cell.CellText.text_of Columns c.args._columns e (λ m rows columns. Fits m rows columns × IsFlat Columns m) (λ m rows columns fits. flat_spanned Columns c.args._columns e m rows columns fits.0 fits.1);
  rows = λ e. option_keeps g.R.Cell.CellText.text_of Rows c.args._rows e (λ m rows columns. Fits m rows columns × IsFlat Rows m) (λ m rows columns fits. flat_spanned Rows c.args._rows e m rows columns fits.0 fits.1);
}
