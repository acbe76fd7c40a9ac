use Rattle.tabled_settings.proofs.SortedRows.{sorted-is-sorted}
use Rattle.tabled_settings.proofs.laws.sorted_rows_are_in_order.Goals as goal

pub returns : goal.returns
returns c = sorted-is-sorted
