-- An exchange of equal places changes nothing.
use Rattle.tabled_grid.proofs.Common.{[], ◌∙◌, ◌∷◌, ◌≡◌, Grid, List, None, Option, Position, Some, ap, ap₂, cell_at, get_or, get_or_from_slice_get, map, refl, set, set-get_or, set-set, swap, sym, with_cell_if, with_cells_swapped, with_columns_swapped, with_rows_swapped, ℕ}

swap_same : {A : Type 0} (xs : List A) (i : ℕ) → swap xs i i ≡ xs
swap_same [] i = refl
swap_same (x ∷ xs) i = set-set (x ∷ xs) i _ _ ∙ set-get_or (x ∷ xs) i x

swap_same_each : {A : Type 0} (rows : List (List A)) (j : ℕ) → map (λ (row : List A). swap row j j) rows ≡ rows
swap_same_each [] j = refl
swap_same_each (row ∷ rows) j = ap₂ (λ r rs. r ∷ rs) (swap_same row j) (swap_same_each rows j)

module _ {A : Type 0} (g : Grid A) where
  pub same_rows_swapped : (i : ℕ) → with_rows_swapped g i i ≡ g
  same_rows_swapped i = rw (swap_same g.cells i) refl

  pub same_columns_swapped : (j : ℕ) → with_columns_swapped g j j ≡ g
  same_columns_swapped j = rw (swap_same_each g.cells j) refl

  own_cell : (p : Position) (cell : Option A) → cell_at g p ≡ cell → with_cell_if g p cell ≡ g
  own_cell p None e = refl
  own_cell p (Some x) e =
      let row : List A = get_or g.cells p.row [] in
      let same_row : set row p.col x ≡ row = ap (set row p.col) (sym (get_or_from_slice_get row p.col x x e)) ∙ set-get_or row p.col x in
      rw (same_row, set-get_or g.cells p.row []) refl

  pub same_cells_swapped : (p : Position) → with_cells_swapped g p p ≡ g
  same_cells_swapped p = ap (λ (h : Grid A). with_cell_if h p (cell_at g p)) (own_cell p (cell_at g p) refl) ∙ own_cell p (cell_at g p) refl
