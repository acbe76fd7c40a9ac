use Rattle.tabled_settings.proofs.SortedRows.{sorted-permutes}
use Rattle.tabled_settings.proofs.laws.sorted_rows_are_the_old_ones.Goals as goal

pub returns : goal.returns
returns c = sorted-permutes
