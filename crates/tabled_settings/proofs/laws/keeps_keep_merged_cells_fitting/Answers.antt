use Rattle.tabled_settings.proofs.RearrangedFits.{keep_keeps}
use Rattle.tabled_settings.proofs.laws.keeps_keep_merged_cells_fitting.Goals as goal

pub returns : goal.returns
returns g c = record { table = keep_keeps g.T.Target.lines (g.L.Location.locates c.args._keep.now) }
