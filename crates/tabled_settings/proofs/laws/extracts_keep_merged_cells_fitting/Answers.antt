use Rattle.tabled_settings.proofs.RearrangedFits.{rearranged_keeps}
use Rattle.tabled_settings.proofs.Common.{extracted}
use Rattle.tabled_settings.proofs.laws.extracts_keep_merged_cells_fitting.Goals as goal

pub returns : goal.returns
returns g c = record { table = rearranged_keeps (λ old. extracted (g.A.ToBounds.bounds_of c.args._extract.now.0) (g.B.ToBounds.bounds_of c.args._extract.now.1) old.rows old.columns) }
