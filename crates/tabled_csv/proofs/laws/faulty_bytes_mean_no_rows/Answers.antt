use Rattle.tabled_csv.proofs.Common.{behind_mark}
use Rattle.tabled_csv.proofs.Fronts.{fault-no-lines}
use Rattle.tabled_csv.proofs.laws.faulty_bytes_mean_no_rows.Goals as goal

pub returns : goal.returns
returns c d bytes line fault sep f rows is = fault-no-lines d sep (behind_mark bytes) fault f.0 f.1 rows is
