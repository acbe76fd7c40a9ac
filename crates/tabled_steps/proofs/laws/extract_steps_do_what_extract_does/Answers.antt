use Rattle.tabled_steps.proofs.Acts.{extracts}
use Rattle.tabled_steps.proofs.laws.extract_steps_do_what_extract_does.Goals as goal

pub returns : goal.returns
returns g c = record { acts = λ a b m n rows columns. extracts g.R.Cell.Blank.is_blank g.R.Cell.CellText.text_of a b m n _ _ rows columns }
