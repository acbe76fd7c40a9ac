use Rattle.tabled_settings.proofs.SortedRows.{sorted-stays}
use Rattle.tabled_settings.proofs.laws.sorted_rows_stay.Goals as goal

pub returns : goal.returns
returns c = sorted-stays
