-- A store's one meaning: a shape and the rows of cells.
use Rattle.std.specs.Global.{Vec}
use Rattle.std.specs.Prelude.{◌≡◌, ◌<◌, ℕ, List, [], ◌∷◌, length, map, Option, slice_get, slice_set, slice_index_or}
use Rattle.std.specs.List.{AllByRecursion}
use Rattle.tabled_grid.specs.declared.config.position.Position.{Position}

-- a shape, and the rows of cells
pub record Grid (A : Type 0) : Type 0 where
  pub rows : ℕ
  pub columns : ℕ
  pub cells : List (List A)

-- as many rows as the shape says, and each row as many cells
pub record IsEven {A : Type 0} (g : Grid A) : Type 0 where
  pub tall : length g.cells ≡ g.rows
  pub wide : AllByRecursion (λ (row : List A). length row ≡ g.columns) g.cells

-- without rows there are no columns
abbrev pub IsEmptyWithoutRows : {A : Type 0} → Grid A → Type 0
IsEmptyWithoutRows g = g.rows ≡ 0 → g.columns ≡ 0

-- a place is inside the shape
pub record IsInside {A : Type 0} (g : Grid A) (p : Position) : Type 0 where
  pub row : p.row < g.rows
  pub col : p.col < g.columns

-- the grid of what f gives of each cell
abbrev pub map_grid : {A B : Type 0} → (A → B) → Grid A → Grid B
map_grid {A} {B} f g = record { rows = g.rows; columns = g.columns; cells = map (map f) g.cells }

-- the cell at a place
abbrev pub cell_at : {A : Type 0} → Grid A → Position → Option A
cell_at g p = slice_get (slice_index_or g.cells p.row []) p.col

-- the grid with another cell at a place
abbrev pub with_cell : {A : Type 0} → Grid A → Position → A → Grid A
with_cell g p cell = record g { cells = slice_set g.cells p.row (slice_set (slice_index_or g.cells p.row []) p.col cell) }

-- another cell with this text at a place, and all else as it was
pub record WritesText {A : Type 0} (text_of : A → List ℕ) (old new : Grid A) (p : Position) (text : List ℕ) : Type 0 where
  pub cell : A
  pub has : text_of cell ≡ text
  pub is : new ≡ with_cell old p cell

-- the number of cells of the first row
abbrev pub width_of : {A : Type 0} → List (List A) → ℕ
width_of [] = 0
width_of (row ∷ rows) = length row

-- the grid of rows
abbrev pub grid_of : {A : Type 0} → List (List A) → Grid A
grid_of rows = record { rows = length rows; columns = width_of rows; cells = rows }

-- the lists of the items of vectors
abbrev pub map_items : {A : Type 0} → List (Vec A) → List (List A)
map_items {A} vs = map (λ (v : Vec A). v.items) vs
