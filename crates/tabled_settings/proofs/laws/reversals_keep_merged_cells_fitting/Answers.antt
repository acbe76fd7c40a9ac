use Rattle.tabled_settings.proofs.RearrangedFits.{reversal_keeps}
use Rattle.tabled_settings.proofs.laws.reversals_keep_merged_cells_fitting.Goals as goal

pub returns : goal.returns
returns g c = record { table = reversal_keeps c.args._reverse }
