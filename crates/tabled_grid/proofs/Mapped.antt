-- What a function gives of each cell of a grid whose rows and columns were changed.
use Rattle.tabled_grid.proofs.Common.{[], ◌∙◌, ◌∷◌, ◌≡◌, AllByRecursion, AreBlanks, Grid, InsertsColumn, InsertsRow, List, None, Option, Position, Some, ap, ap₂, insert, length, map, map-insert, map_grid, option_map, refl, replicate, rules, with_cell_if, with_cells_swapped, with_column, with_row, zip, ℕ}
use Rattle.tabled_grid.proofs.Grids.{cell_at-map_grid, map_grid-with_cell}

-- two maps, one after the other, that agree at each member with two others
pub maps_agree : {A B C D : Type 0} (f : B → D) (g : A → B) (k : C → D) (h : A → C) → ((x : A) → f (g x) ≡ k (h x)) → (xs : List A) → map f (map g xs) ≡ map k (map h xs)
maps_agree f g k h agree [] = refl
maps_agree f g k h agree (x ∷ xs) = ap₂ (λ y ys. y ∷ ys) (agree x) (maps_agree f g k h agree xs)

module _ {A B : Type 0} (f : A → B) where
  column_put : (j : ℕ) (rows : List (List A)) (column : List A) →
      map (map f) (map (λ (p : List A × A). insert p.0 j p.1) (zip rows column)) ≡ map (λ (p : List B × B). insert p.0 j p.1) (zip (map (map f) rows) (map f column))
  column_put j [] column = refl
  column_put j (row ∷ rows) [] = refl
  column_put j (row ∷ rows) (cell ∷ column) = ap₂ (λ r rs. r ∷ rs) (map-insert f row j cell) (column_put j rows column)

  pub map_grid-with_row : (g : Grid A) (i : ℕ) (row : List A) → map_grid f (with_row g i row) ≡ with_row (map_grid f g) i (map f row)
  map_grid-with_row g i row = rw (map-insert (map f) g.cells i row) refl

  pub map_grid-with_column : (g : Grid A) (j : ℕ) (column : List A) → map_grid f (with_column g j column) ≡ with_column (map_grid f g) j (map f column)
  map_grid-with_column g j column = rw (column_put j g.cells column) refl

  map_grid-with_cell_if : (g : Grid A) (p : Position) (cell : Option A) → map_grid f (with_cell_if g p cell) ≡ with_cell_if (map_grid f g) p (option_map f cell)
  map_grid-with_cell_if g p None = refl
  map_grid-with_cell_if g p (Some x) = map_grid-with_cell f g p x

  pub map_grid-with_cells_swapped : (g : Grid A) (p q : Position) → map_grid f (with_cells_swapped g p q) ≡ with_cells_swapped (map_grid f g) p q
  map_grid-with_cells_swapped g p q = search (rules, map_grid-with_cell_if, cell_at-map_grid)

-- rows and columns of blanks are seen as empty texts
module _ {A : Type 0} (text_of : A → List ℕ) (is_blank : A → Type 0) (empty : (x : A) → is_blank x → text_of x ≡ []) where
  texts_of_blanks : (cells : List A) → AllByRecursion is_blank cells → map text_of cells ≡ replicate (length cells) []
  texts_of_blanks [] h = refl
  texts_of_blanks (cell ∷ cells) h = ap₂ (λ text texts. text ∷ texts) (empty cell h.0) (texts_of_blanks cells h.1)

  blank_texts : (count : ℕ) (cells : List A) → AreBlanks is_blank count cells → map text_of cells ≡ replicate count []
  blank_texts count cells h = texts_of_blanks cells h.blank ∙ ap (λ n. replicate n []) h.many

  pub texts-inserts_row : (old new : Grid A) (i : ℕ) → InsertsRow is_blank old new i → map_grid text_of new ≡ with_row (map_grid text_of old) i (replicate old.columns [])
  texts-inserts_row old new i w = rw w.is (map_grid-with_row text_of old i w.row ∙ ap (with_row (map_grid text_of old) i) (blank_texts old.columns w.row w.blanks))

  pub texts-inserts_column : (old new : Grid A) (j : ℕ) → InsertsColumn is_blank old new j → map_grid text_of new ≡ with_column (map_grid text_of old) j (replicate old.rows [])
  texts-inserts_column old new j w = rw w.is (map_grid-with_column text_of old j w.column ∙ ap (with_column (map_grid text_of old) j) (blank_texts old.rows w.column w.blanks))
