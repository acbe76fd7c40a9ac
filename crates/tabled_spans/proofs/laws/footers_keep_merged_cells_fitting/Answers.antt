use Rattle.tabled_spans.proofs.Common.{Rows}
use Rattle.tabled_spans.proofs.PanelGeometry.{panels_fit, same_fits}
use Rattle.tabled_spans.proofs.laws.footers_keep_merged_cells_fitting.Goals as goal

pub returns : goal.returns
returns g c = record { done = λ g0 m h n fits does. panels_fit _ _ Rows g0.rows c.args._footer.now g0 m h n fits does; refused = same_fits }
