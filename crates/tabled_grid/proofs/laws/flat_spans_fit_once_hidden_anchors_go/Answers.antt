use Rattle.tabled_grid.proofs.Merging.{fits_dropped, flat_dropped, midway_flat, midway_narrow, narrow_dropped}
use Rattle.tabled_grid.proofs.laws.flat_spans_fit_once_hidden_anchors_go.Goals as goal

pub returns : goal.returns
returns c = record {
  flat = λ m rows columns flat within. (fits_dropped m rows columns (midway_flat m rows columns flat within), flat_dropped m flat);
  narrow = λ m rows columns narrow within. (fits_dropped m rows columns (midway_narrow m rows columns narrow within), narrow_dropped m narrow);
}
