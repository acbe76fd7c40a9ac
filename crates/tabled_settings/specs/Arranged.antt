-- Lines of a table, put into another order by swaps.
use Rattle.std.specs.Prelude.{◌≡◌, ◌<◌, ◌≤◌, ◌↔◌, ℕ, List, length, slice_index_or, suc, zero}
use Rattle.std.specs.List.{range_with_len, swap}
use Rattle.tabled_grid.specs.Along.{count_along}
use Rattle.tabled_grid.specs.Grid.{Grid}
use Rattle.tabled_grid.specs.Places.{IsShapedAs}
use Rattle.tabled_grid.specs.declared.records.axis.Axis.{Axis}
use Rattle.tabled_settings.specs.Lines.{KeepsLines, line_cells}

-- indexes below n, each once
pub record AreDistinct (indexes : List ℕ) (n : ℕ) : Type 0 where
  pub below : (k : ℕ) → k < length indexes → slice_index_or indexes k 0 < n
  pub apart : (j k : ℕ) → j < length indexes → k < length indexes → slice_index_or indexes j 0 ≡ slice_index_or indexes k 0 → j ≡ k

-- a list after the first k of some swaps: each item in turn, from the first on, changes places with the one at a place
unfoldable pub after_swaps : {X : Type 0} → List ℕ → ℕ → List X → List X
after_swaps swaps zero xs = xs
after_swaps swaps (suc k) xs = swap (after_swaps swaps k xs) k (slice_index_or swaps k 0)

-- swaps within n lines, none with a line before
pub record SwapForward (swaps : List ℕ) (n : ℕ) : Type 0 where
  pub ahead : (k : ℕ) → k < length swaps → k ≤ slice_index_or swaps k 0
  pub within : (k : ℕ) → k < length swaps → slice_index_or swaps k 0 < n

-- such swaps bring lines of some indexes to the front, in their order
pub record BringToFront (indexes swaps : List ℕ) (n : ℕ) : Type 0 where
  pub many : length swaps ≡ length indexes
  pub forward : SwapForward swaps n
  pub front : (k : ℕ) → k < length indexes → slice_index_or (after_swaps swaps (length indexes) (range_with_len 0 n)) k 0 ≡ slice_index_or indexes k 0

-- the lines that swaps bring to the front are kept, and no others
abbrev pub KeepsFront : {A : Type 0} → Axis → List ℕ → Grid A → Grid A → Type 0
KeepsFront axis swaps old new = (indexes : List ℕ) → BringToFront indexes swaps (count_along axis old) → KeepsLines axis indexes old new

-- of each index below n it is told where it stands among some; of those that aren't there, no place of these
pub record TellsPlaces (indexes places : List ℕ) (n : ℕ) : Type 0 where
  pub many : length places ≡ n
  pub tells : (i k : ℕ) → i < n → k < length indexes → (slice_index_or places i 0 ≡ k) ↔ (slice_index_or indexes k 0 ≡ i)

-- the lines are swapped as a list of their indexes is, k times
pub record SwapsLines {A : Type 0} (axis : Axis) (swaps : List ℕ) (k : ℕ) (old new : Grid A) : Type 0 where
  pub shape : IsShapedAs old new
  pub each : (i : ℕ) → i < count_along axis old → line_cells axis new i ≡ line_cells axis old (slice_index_or (after_swaps swaps k (range_with_len 0 (count_along axis old))) i 0)
