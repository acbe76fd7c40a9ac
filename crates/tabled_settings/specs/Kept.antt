-- Lines that are kept, in the order in which they are named.
use Rattle.std.specs.Prelude.{◌≡◌, ◌<◌, ◌==◌, ℕ, List, [], ◌∷◌, length, nat_lt, not, slice_index_or}
use Rattle.std.specs.List.{filter}
use Rattle.tabled_grid.specs.Axis.{count_of}
use Rattle.tabled_grid.specs.Grid.{Grid}
use Rattle.tabled_carry.specs.Images.{carried}
use Rattle.tabled_grid.specs.Places.{Places, ReadsThrough}
use Rattle.tabled_grid.specs.Spans.{SpanMap}
use Rattle.tabled_grid.specs.declared.records.axis.Axis.{Axis}
use Rattle.tabled_settings.specs.Rearranged.{Rearranges, kept_lines}

-- each index once, where it first stands
abbrev pub each_once : List ℕ → List ℕ
each_once [] = []
each_once (i ∷ indexes) = i ∷ filter (λ (k : ℕ). not (i == k)) (each_once indexes)

-- the indexes below n, each once, in order
abbrev pub taken_in_order : List ℕ → ℕ → List ℕ
taken_in_order found n = each_once (filter (λ (i : ℕ). nat_lt i n) found)

-- the rows, or the columns, whose indexes are among some, in the order of these
abbrev pub kept : Axis → List ℕ → ℕ → ℕ → Places
kept axis found rows columns = kept_lines axis (taken_in_order found (count_of axis rows columns)) rows columns

-- the lines that are located are kept, in this order, and the merged cells are carried along
pub record Keeps {A : Type 0} (axis : Axis) (locates : Grid A → List ℕ → Type 0) (old : Grid A) (cfg : SpanMap) (new : Grid A) (new_cfg : SpanMap) : Type 0 where
  pub found : List ℕ
  pub located : locates old found
  pub rearranged : Rearranges (kept axis found old.rows old.columns) old cfg new new_cfg

-- the items of a list of n indexes below n are the places of these indexes in another list
pub record TellPlaces (xs ys : List ℕ) (n : ℕ) : Type 0 where
  pub many : length xs ≡ n
  pub below : (i : ℕ) → i < n → slice_index_or xs i 0 < n
  pub back : (i : ℕ) → i < n → slice_index_or ys (slice_index_or xs i 0) 0 ≡ i

-- two orders of n lines, of which each undoes the other
pub record AreInverse (xs ys : List ℕ) (n : ℕ) : Type 0 where
  pub there : TellPlaces xs ys n
  pub back : TellPlaces ys xs n

-- a table is another one, of which lines are kept in an order
abbrev pub IsKept : {A : Type 0} → Axis → List ℕ → Grid A → Grid A → Type 0
IsKept axis indexes old new = ReadsThrough (kept_lines axis indexes old.rows old.columns) old new

-- the merged cells of a table of which lines are kept in an order
abbrev pub spans_kept : Axis → List ℕ → ℕ → ℕ → SpanMap → SpanMap
spans_kept axis indexes rows columns m = carried (kept_lines axis indexes rows columns) rows columns m
