-- The rows or the columns of a grid, one after another.
use Rattle.std.specs.Prelude.{Bool, false, ◌≡◌, ◌<◌, ◌≤◌, ◌⊎◌, ℕ, ◌+◌, ◌-◌, List, [], Option, Some, length, map, min, slice_get, slice_index_or}
use Rattle.std.specs.List.{range_with_len}
use Rattle.tabled_grid.specs.Axis.{count_of}
use Rattle.tabled_grid.specs.Places.{IsShapedAs}
use Rattle.tabled_grid.specs.Grid.{Grid, IsEven}
use Rattle.tabled_grid.specs.declared.records.axis.Axis.{Axis}
use Rattle.tabled_grid.specs.declared.records.axis.Axis.TheVariants.{Rows, Columns}
use Rattle.tabled_settings.specs.Rearranged.{columns_if, left_over}

-- the cells of a row, or those of a column
abbrev pub line_cells : {A : Type 0} → Axis → Grid A → ℕ → List (Option A)
line_cells {A} Rows g i = map Some (slice_index_or g.cells i [])
line_cells {A} Columns g j = map (λ (row : List A). slice_get row j) g.cells

-- n lines from s on and as many before e have changed places, the outermost first
pub record ReversesEnds {A : Type 0} (axis : Axis) (s e k : ℕ) (old new : Grid A) : Type 0 where
  pub shape : IsShapedAs old new
  pub front : (i : ℕ) → s ≤ i → i < s + k → line_cells axis new i ≡ line_cells axis old (s + e - 1 - i)
  pub back : (i : ℕ) → e ≤ i + k → i < e → line_cells axis new i ≡ line_cells axis old (s + e - 1 - i)
  pub between : (i : ℕ) → s + k ≤ i → i + k < e → line_cells axis new i ≡ line_cells axis old i
  pub outside : (i : ℕ) → (i < s) ⊎ (e ≤ i) → line_cells axis new i ≡ line_cells axis old i

-- the lines from s up to e are in the opposite order
pub record ReversesLines {A : Type 0} (axis : Axis) (s e : ℕ) (old new : Grid A) : Type 0 where
  pub shape : IsShapedAs old new
  pub inside : (i : ℕ) → s ≤ i → i < e → line_cells axis new i ≡ line_cells axis old (s + e - 1 - i)
  pub outside : (i : ℕ) → (i < s) ⊎ (e ≤ i) → line_cells axis new i ≡ line_cells axis old i

-- the shape of a grid with other lines: without rows there are no columns
pub record HasLines {A : Type 0} (axis : Axis) (n : ℕ) (old new : Grid A) : Type 0 where
  pub even : IsEven new
  pub rows : new.rows ≡ count_of axis n old.rows
  pub columns : new.columns ≡ count_of axis (columns_if n old.columns) n

-- the first k lines are those of the first k of some indexes; the lines past all of these are as they were
pub record BringsLines {A : Type 0} (axis : Axis) (kept : List ℕ) (k : ℕ) (old new : Grid A) : Type 0 where
  pub shape : IsShapedAs old new
  pub front : (a : ℕ) → a < k → line_cells axis new a ≡ line_cells axis old (slice_index_or kept a 0)
  pub behind : (a : ℕ) → k ≤ a → ((b : ℕ) → b < k → slice_index_or kept b 0 < a) → line_cells axis new a ≡ line_cells axis old a

-- the indexes from one up to another, of n
abbrev pub indexes_in : ℕ → ℕ → ℕ → List ℕ
indexes_in s e n = range_with_len s (min e n - s)

-- the lines are those of some indexes
pub record KeepsLines {A : Type 0} (axis : Axis) (kept : List ℕ) (old new : Grid A) : Type 0 where
  pub shape : HasLines axis (length kept) old new
  pub each : (a : ℕ) → a < length kept → line_cells axis new a ≡ line_cells axis old (slice_index_or kept a 0)

-- a line has a mark
abbrev pub is_marked : List Bool → ℕ → Bool
is_marked marks i = slice_index_or marks i false

-- the indexes without a mark, in order
abbrev pub unmarked : List Bool → List ℕ
unmarked marks = left_over (is_marked marks) (length marks)
