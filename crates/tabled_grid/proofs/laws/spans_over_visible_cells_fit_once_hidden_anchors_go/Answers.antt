use Rattle.tabled_grid.proofs.Merging.{fits_dropped, midway, midway_heightened, midway_widened}
use Rattle.tabled_grid.proofs.laws.spans_over_visible_cells_fit_once_hidden_anchors_go.Goals as goal

pub returns : goal.returns
returns c = record {
  starts = midway;
  wider = λ m p width rows columns some row fits all mid. midway_widened m p width some rows columns row fits all mid;
  higher = λ m p height rows columns some col fits all mid. midway_heightened m p height some rows columns col fits all mid;
  ends = fits_dropped;
}
