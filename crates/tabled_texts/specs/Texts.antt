-- Texts of rows.
use Rattle.std.specs.Borrow.{Bor}
use Rattle.std.specs.Prelude.{◌≡◌, ℕ, List, [], map, slice_index_or}
use Rattle.std.specs.Global.{Vec}
use Rattle.tabled_grid.specs.Grid.{Grid, map_grid}

-- a lent text, as its bytes
abbrev pub text_of : Bor (List ℕ) → List ℕ
text_of text = text.now

-- the texts of a row
abbrev pub texts_by : {A : Type 0} → (A → List ℕ) → Vec A → List (List ℕ)
texts_by text row = map text row.items

-- the texts of rows
abbrev pub rows_by : {A : Type 0} → (A → List ℕ) → List (Vec A) → List (List (List ℕ))
rows_by text rows = map (texts_by text) rows

-- the texts of a grid's rows
abbrev pub cells_by : {A : Type 0} → (A → List ℕ) → Grid A → List (List (List ℕ))
cells_by text grid = (map_grid text grid).cells

-- the texts of one of these rows, or none where there is no such row
abbrev pub row_at : List (List (List ℕ)) → ℕ → List (List ℕ)
row_at rows i = slice_index_or rows i []

-- the texts of a row of fields
abbrev pub texts_of : Vec (Bor (List ℕ)) → List (List ℕ)
texts_of row = texts_by text_of row

-- the texts of rows of fields
abbrev pub rows_of : List (Vec (Bor (List ℕ))) → List (List (List ℕ))
rows_of rows = rows_by text_of rows

-- what is made of a lent text has that text
abbrev pub KeepsTexts : {A : Type 0} → (Bor (List ℕ) → A → Type 0) → (A → List ℕ) → Type 0
KeepsTexts gives text = (lent : Bor (List ℕ)) (made : _) → gives lent made → text made ≡ lent.now
