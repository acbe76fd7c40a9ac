use Rattle.tabled_spans.proofs.Common.{Columns}
use Rattle.tabled_spans.proofs.PanelGeometry.{panels_fit, same_fits}
use Rattle.tabled_spans.proofs.laws.vertical_panels_keep_merged_cells_fitting.Goals as goal

pub returns : goal.returns
returns g c = record { done = λ g0 m h n fits does. panels_fit _ _ Columns c.args._panel.now.0 c.args._panel.now.1 g0 m h n fits does; refused = same_fits }
