-- How far down the cells reach that begin before a place.
use Rattle.std.specs.Prelude.{◌≡◌, ◌<◌, ◌≤◌, ℕ, List, length, nat_lt, slice_index_or}
use Rattle.tabled_html.specs.Laws.{own_area}
use Rattle.tabled_html.specs.Written.{Written}
use Rattle.tabled_html_reading.specs.Areas.{begun}

-- for each column a row: from row i on, owners of the column's places begin before row i's column j exactly above it
pub record AreEnds (w : Written) (i j : ℕ) (ends : List ℕ) : Type 0 where
  pub long : length ends ≡ w.texts.columns
  pub down : (x y : ℕ) → x < w.texts.columns → i ≤ y → y < w.texts.rows → nat_lt y (slice_index_or ends x 0) ≡ begun (own_area w.merged) i j x y
