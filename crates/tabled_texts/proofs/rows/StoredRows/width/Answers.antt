use Rattle.std.proofs.Common.{◌∙◌, sym}
use Rattle.tabled_texts.proofs.Stores.{stored-width}
use Rattle.tabled_texts.proofs.rows.StoredRows.width.Goals as goal

pub returns : goal.returns
returns g c = c.count_columns.ensures.columns ∙ sym (stored-width g.R.Cell.CellText.text_of (g.R.GridStore.grid c.args.self.now.records.now) (g.R.GridStore.even _ c.requires.well) c.args._i c.requires.row)
