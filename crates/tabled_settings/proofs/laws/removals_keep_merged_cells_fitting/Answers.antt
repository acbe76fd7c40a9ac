use Rattle.tabled_settings.proofs.RearrangedFits.{removal_keeps}
use Rattle.tabled_settings.proofs.laws.removals_keep_merged_cells_fitting.Goals as goal

pub returns : goal.returns
returns g c = record { table = removal_keeps g.T.Target.lines (g.L.Location.locates c.args._remove.now) }
