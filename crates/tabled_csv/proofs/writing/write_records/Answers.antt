use Rattle.tabled_csv.proofs.Stores.{have-fields}
use Rattle.tabled_csv.proofs.Writes.{on-ok}
use Rattle.tabled_csv.proofs.writing.write_records.Goals as goal

pub returns-clause-means : goal.returns-clause-means
returns-clause-means g c =
    on-ok c.write_texts.result _ _
    (λ means. λ some. means (have-fields g.R.Cell.CellText.text_of (g.R.GridStore.grid c.args.records.now) (g.R.GridStore.even _ c.requires.well) some))
    c.write_texts.ensures.means
