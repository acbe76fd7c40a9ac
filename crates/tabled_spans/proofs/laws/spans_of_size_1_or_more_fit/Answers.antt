use Rattle.tabled_spans.proofs.Common.{Columns, Fits, Rows}
use Rattle.tabled_spans.proofs.SpanGeometry.{fits_spanned, option_keeps}
use Rattle.tabled_spans.proofs.laws.spans_of_size_1_or_more_fit.Goals as goal

pub returns : goal.returns
returns g c = record {
  columns = λ positive e. option_keeps g.R.Cell.CellText.text_of Columns c.args._columns e Fits (fits_spanned Columns c.args._columns e positive);
  rows = λ positive e. option_keeps g.R.Cell.CellText.text_of Rows c.args._rows e Fits (fits_spanned Rows c.args._rows e positive);
}
