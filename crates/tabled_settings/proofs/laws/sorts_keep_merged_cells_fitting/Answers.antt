use Rattle.tabled_settings.proofs.Common.{map_grid}
use Rattle.tabled_settings.proofs.RearrangedFits.{rearranged_keeps}
use Rattle.tabled_settings.specs.Sorted.{sorted_as}
use Rattle.tabled_settings.proofs.laws.sorts_keep_merged_cells_fitting.Goals as goal

pub returns : goal.returns
returns g c = record { table = rearranged_keeps (λ old. sorted_as c.args._sort.now (map_grid g.R.Cell.CellText.text_of old)) }
