use Rattle.tabled_language.proofs.RowScripts.{reads_rows}
use Rattle.tabled_language.proofs.laws.rows_are_read_back.Goals as goal

pub returns : goal.returns
returns c = reads_rows
