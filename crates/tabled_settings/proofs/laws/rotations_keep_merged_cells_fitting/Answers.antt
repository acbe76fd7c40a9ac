use Rattle.tabled_settings.proofs.RearrangedFits.{rearranged_keeps}
use Rattle.tabled_settings.proofs.Common.{rotated}
use Rattle.tabled_settings.proofs.laws.rotations_keep_merged_cells_fitting.Goals as goal

pub returns : goal.returns
returns g c = record { table = rearranged_keeps (λ old. rotated c.args._rotate.now old.rows old.columns) }
