-- Grids with rows and columns inserted, swapped and removed.
use Rattle.std.specs.Prelude.{◌≡◌, ℕ, ◌+◌, ◌-◌, ◌==◌, if◌then◌else◌, List, length, map, Option, None, Some}
use Rattle.std.specs.List.{AllByRecursion, insert, remove, swap, zip}
use Rattle.tabled_grid.specs.declared.config.position.Position.{Position}
use Rattle.tabled_grid.specs.Grid.{Grid, cell_at, with_cell}

-- n blanks
pub record AreBlanks {A : Type 0} (is_blank : A → Type 0) (count : ℕ) (cells : List A) : Type 0 where
  pub blank : AllByRecursion is_blank cells
  pub many : length cells ≡ count

-- the grid with a row inserted before row i
abbrev pub with_row : {A : Type 0} → Grid A → ℕ → List A → Grid A
with_row g i row = record g { rows = g.rows + 1; cells = insert g.cells i row }

-- a row of blanks is inserted before row i
pub record InsertsRow {A : Type 0} (is_blank : A → Type 0) (old new : Grid A) (i : ℕ) : Type 0 where
  pub row : List A
  pub blanks : AreBlanks is_blank old.columns row
  pub is : new ≡ with_row old i row

-- a blank is inserted into a row before place j
pub record InsertsBlank {A : Type 0} (is_blank : A → Type 0) (j : ℕ) (old new : List A) : Type 0 where
  pub cell : A
  pub blank : is_blank cell
  pub is : new ≡ insert old j cell

-- the grid with a column inserted before column j, which changes nothing without rows
abbrev pub with_column : {A : Type 0} → Grid A → ℕ → List A → Grid A
with_column {A} g j column = record g { columns = if g.rows == 0 then g.columns else g.columns + 1; cells = map (λ (p : List A × A). insert p.0 j p.1) (zip g.cells column) }

-- a column of blanks is inserted before column j
pub record InsertsColumn {A : Type 0} (is_blank : A → Type 0) (old new : Grid A) (j : ℕ) : Type 0 where
  pub column : List A
  pub blanks : AreBlanks is_blank old.rows column
  pub is : new ≡ with_column old j column

-- the grid with two rows swapped
abbrev pub with_rows_swapped : {A : Type 0} → Grid A → ℕ → ℕ → Grid A
with_rows_swapped g i k = record g { cells = swap g.cells i k }

-- the grid with two columns swapped
abbrev pub with_columns_swapped : {A : Type 0} → Grid A → ℕ → ℕ → Grid A
with_columns_swapped {A} g j k = record g { cells = map (λ (row : List A). swap row j k) g.cells }

-- the grid with a cell at a place, if there is one
abbrev pub with_cell_if : {A : Type 0} → Grid A → Position → Option A → Grid A
with_cell_if {A} g p cell = record g { cells = cells_if cell }
  where
    cells_if : Option A → List (List A)
    cells_if None = g.cells
    cells_if (Some x) = (with_cell g p x).cells

-- the grid with two cells swapped
abbrev pub with_cells_swapped : {A : Type 0} → Grid A → Position → Position → Grid A
with_cells_swapped g p q = with_cell_if (with_cell_if g p (cell_at g q)) q (cell_at g p)

-- the grid without row i, and without columns once its last row is gone
abbrev pub without_row : {A : Type 0} → Grid A → ℕ → Grid A
without_row g i = record { rows = g.rows - 1; columns = if g.rows == 1 then 0 else g.columns; cells = remove g.cells i }

-- the grid without column j
abbrev pub without_column : {A : Type 0} → Grid A → ℕ → Grid A
without_column {A} g j = record g { columns = g.columns - 1; cells = map (λ (row : List A). remove row j) g.cells }
