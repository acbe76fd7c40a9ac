-- Grids with many rows or columns more, and grids whose rows are columns.
use Rattle.std.specs.Prelude.{◌≡◌, ◌==◌, ℕ, ◌+◌, if◌then◌else◌, List, [], ◌∷◌, ◌++◌, Option, None, Some, length, map, replicate, slice_index_or}
use Rattle.std.specs.List.{AllByRecursion, AllZip, zip}
use Rattle.tabled_grid.specs.Entity.{place}
use Rattle.tabled_grid.specs.Grid.{Grid, cell_at, map_grid, with_cell}
use Rattle.tabled_grid.specs.Moves.{AddsBlanks}
use Rattle.tabled_grid.specs.Places.{Places}
use Rattle.tabled_grid.specs.Resized.{AreBlanks}
use Rattle.tabled_grid.specs.Spans.{sized}
use Rattle.tabled_grid.specs.declared.config.position.Position.{Position}

-- n rows of blanks are put below the last row
pub record AddsRows {A : Type 0} (is_blank : A → Type 0) (many : ℕ) (old new : Grid A) : Type 0 where
  pub added : List (List A)
  pub blanks : AllByRecursion (AreBlanks is_blank old.columns) added
  pub many_are : length added ≡ many
  pub is : new ≡ record old { rows = old.rows + many; cells = old.cells ++ added }

-- n columns of blanks are put after the last one, which changes nothing without rows
pub record AddsColumns {A : Type 0} (is_blank : A → Type 0) (many : ℕ) (old new : Grid A) : Type 0 where
  pub rows : new.rows ≡ old.rows
  pub columns : new.columns ≡ (if old.rows == 0 then old.columns else old.columns + many)
  pub each : AllZip (λ (row wide : List A). AddsBlanks is_blank row wide many) old.cells new.cells

-- each row with an item behind it
abbrev pub with_items_behind : {A : Type 0} → List (List A) → List A → List (List A)
with_items_behind {A} rows items = map (λ (p : List A × A). p.0 ++ p.1 ∷ []) (zip rows items)

-- rows as columns: the cells of a row are put in front of n rows, one each
abbrev pub transposed_rows : {A : Type 0} → ℕ → List (List A) → List (List A)
transposed_rows columns [] = replicate columns []
transposed_rows {A} columns (row ∷ rows) = map (λ (p : A × List A). p.0 ∷ p.1) (zip row (transposed_rows columns rows))

-- the grid whose rows are columns; without columns it has no rows, and so no columns either
abbrev pub transposed : {A : Type 0} → Grid A → Grid A
transposed g = record { rows = g.columns; columns = if g.columns == 0 then 0 else g.rows; cells = transposed_rows g.columns g.cells }

-- r rows and c columns change places
abbrev pub turned_places : ℕ → ℕ → Places
turned_places rows columns = record { size = sized columns rows; old_place = λ (p : Position). Some (place p.col p.row) }

-- the cell in a row and a column, none outside
abbrev pub cell_in : {A : Type 0} → Grid A → ℕ → ℕ → Option A
cell_in g a b = slice_index_or (slice_index_or (map_grid Some g).cells a []) b None

-- a cell of one grid and a cell of another have changed places
pub record Exchanges {A : Type 0} (p q : Position) (old new other_old other_new : Grid A) : Type 0 where
  pub here : A
  pub there : A
  pub was_here : cell_at old p ≡ Some here
  pub was_there : cell_at other_old q ≡ Some there
  pub is_here : new ≡ with_cell old p there
  pub is_there : other_new ≡ with_cell other_old q here
