-- Rows of cells, limited and skipped.
use denote.Ref.{Bor}
use Rattle.std.specs.Prelude.{◌≡◌, ℕ, List, [], map, take, drop, replicate}
use Rattle.tabled_grid.specs.Grid.{Grid}

-- a cell shows what a contract sees of it
abbrev pub Shows : {A B : Type 0} → (A → B) → A → B → Type 0
Shows shown cell x = shown cell ≡ x

-- the first rows, or all where there are fewer
abbrev pub first_rows : {A : Type 0} → ℕ → List (List A) → List (List A)
first_rows n rows = take n rows

-- the rows after the first ones
abbrev pub rows_after : {A : Type 0} → ℕ → List (List A) → List (List A)
rows_after n rows = drop n rows

-- the first cells of each row, or all where there are fewer
abbrev pub first_columns : {A : Type 0} → ℕ → List (List A) → List (List A)
first_columns n rows = map (take n) rows

-- a number of rows and a number of columns
pub record Shape : Type 0 where
  pub rows : ℕ
  pub columns : ℕ

-- rows of one cell, over and over
abbrev pub filled : {A : Type 0} → Shape → A → List (List A)
filled s cell = replicate s.rows (replicate s.columns cell)

-- a text without characters
abbrev pub empty_text : Bor (List ℕ)
empty_text = record { ref_ptr = (0, 0); now = [] }

-- the grid of empty texts, also where it has columns and no rows
abbrev pub empty_grid : Shape → Grid (Bor (List ℕ))
empty_grid s = record { rows = s.rows; columns = s.columns; cells = filled s empty_text }

-- what a contract sees of rows of cells
abbrev pub all_shown : {A B : Type 0} → (A → B) → List (List A) → List (List B)
all_shown shown rows = map (map shown) rows
