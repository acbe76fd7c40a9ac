use Rattle.tabled_json.proofs.Stores.{none-long}
use Rattle.tabled_json.proofs.writing.write_records.Goals as goal

pub returns-clause-even : goal.returns-clause-even
returns-clause-even g c =
    none-long g.R.Cell.CellText.text_of (g.R.GridStore.grid c.args.records.now) (g.R.GridStore.even _ c.requires.well) c.write_texts.result c.write_texts.ensures.why
