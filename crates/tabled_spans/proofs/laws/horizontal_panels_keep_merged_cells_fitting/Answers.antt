use Rattle.tabled_spans.proofs.Common.{Rows}
use Rattle.tabled_spans.proofs.PanelGeometry.{panels_fit, same_fits}
use Rattle.tabled_spans.proofs.laws.horizontal_panels_keep_merged_cells_fitting.Goals as goal

pub returns : goal.returns
returns g c = record { done = λ g0 m h n fits does. panels_fit _ _ Rows c.args._panel.now.0 c.args._panel.now.1 g0 m h n fits does; refused = same_fits }
