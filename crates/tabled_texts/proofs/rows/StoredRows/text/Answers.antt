use Rattle.tabled_texts.proofs.Stores.{stored-inside}
use Rattle.tabled_texts.proofs.rows.StoredRows.text.Goals as goal

pub get_text-requires-clause-inside : goal.get_text-requires-clause-inside
get_text-requires-clause-inside g c = stored-inside g.R.Cell.CellText.text_of (g.R.GridStore.grid c.args.self.now.records.now) (g.R.GridStore.even _ c.requires.well) c.args.i c.requires.row c.args.j c.requires.column
