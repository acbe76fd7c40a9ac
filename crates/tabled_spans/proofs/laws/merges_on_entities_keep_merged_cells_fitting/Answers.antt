use Rattle.tabled_spans.proofs.Common.{Columns, Rows, map_grid}
use Rattle.tabled_spans.proofs.MergeGeometry.{fits_merged}
use Rattle.tabled_spans.proofs.PanelGeometry.{same_fits}
use Rattle.tabled_spans.proofs.laws.merges_on_entities_keep_merged_cells_fitting.Goals as goal

pub returns-clause-vertical : goal.returns-clause-vertical
returns-clause-vertical g c = λ e. record { done = λ g0 m h n fits does. rw does.0 (fits_merged Rows e (map_grid g.R.Cell.CellText.text_of g0) m n does.1 fits); refused = same_fits }

pub returns-clause-horizontal : goal.returns-clause-horizontal
returns-clause-horizontal g c = λ e. record { done = λ g0 m h n fits does. rw does.0 (fits_merged Columns e (map_grid g.R.Cell.CellText.text_of g0) m n does.1 fits); refused = same_fits }
