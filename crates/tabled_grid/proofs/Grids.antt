-- Grids with another cell at a place, and the grids of texts.
use Rattle.tabled_grid.proofs.Common.{[], ◌<◌, ◌∙◌, ◌∷◌, ◌≡◌, ◌≢◌, All-from_recursion, AllByRecursion, Grid, IsEven, IsInside, List, Position, Some, WritesText, ap, arith, cases_eq, cell_at, common_steps, get_or, get_or-map, get_or-set_other, get_or-set_same, length, length-map, length-set, map, map-set, map_grid, option_map, refl, set, slice_get, slice_get-get_or, slice_get-map, suc, with_cell, zero, ℕ}

-- what f gives of a grid with another cell
pub map_grid-with_cell : {A B : Type 0} (f : A → B) (g : Grid A) (p : Position) (x : A) → map_grid f (with_cell g p x) ≡ with_cell (map_grid f g) p (f x)
map_grid-with_cell {A} {B} f g p x = grind (arith, common_steps, map-set, get_or-map)

-- a list of rows that are all as long, with another cell
wide-set : {A : Type 0} (n : ℕ) (rows : List (List A)) (i j : ℕ) (x : A) → AllByRecursion (λ (row : List A). length row ≡ n) rows → AllByRecursion (λ (row : List A). length row ≡ n) (set rows i (set (get_or rows i []) j x))
wide-set n [] i j x a = a
wide-set n (row ∷ rows) zero j x a = (length-set row j x ∙ a.0, a.1)
wide-set n (row ∷ rows) (suc i) j x a = (a.0, wide-set n rows i j x a.1)

pub IsEven-with_cell : {A : Type 0} (g : Grid A) (p : Position) (x : A) → IsEven g → IsEven (with_cell g p x)
IsEven-with_cell g p x h = grind (arith, common_steps, length-set, wide-set)

wide-map : {A B : Type 0} (f : A → B) (n : ℕ) (rows : List (List A)) → AllByRecursion (λ (row : List A). length row ≡ n) rows → AllByRecursion (λ (row : List B). length row ≡ n) (map (map f) rows)
wide-map f n [] a = tt
wide-map f n (row ∷ rows) a = (length-map row f ∙ a.0, wide-map f n rows a.1)

pub IsEven-map_grid : {A B : Type 0} (f : A → B) (g : Grid A) → IsEven g → IsEven (map_grid f g)
IsEven-map_grid f g h = record { tall = length-map g.cells (map f) ∙ h.tall; wide = wide-map f g.columns g.cells h.wide }

-- what f gives of the cell at a place
pub cell_at-map_grid : {A B : Type 0} (f : A → B) (g : Grid A) (p : Position) → cell_at (map_grid f g) p ≡ option_map f (cell_at g p)
cell_at-map_grid f g p = ap (λ ys. slice_get ys p.col) (get_or-map (map f) g.cells p.row []) ∙ slice_get-map f (get_or g.cells p.row []) p.col

pub cell_at-map_grid_some : {A B : Type 0} (f : A → B) (g : Grid A) (p : Position) (x : A) → cell_at g p ≡ Some x → cell_at (map_grid f g) p ≡ Some (f x)
cell_at-map_grid_some f g p x e = cell_at-map_grid f g p ∙ ap (option_map f) e

slice_get-set_same : {A : Type 0} (xs : List A) (i : ℕ) (x : A) → i < length xs → slice_get (set xs i x) i ≡ Some x
slice_get-set_same xs i x h = slice_get-get_or (set xs i x) i x (rw length-set h) ∙ ap Some (get_or-set_same xs i x x h)

slice_get-set_other : {A : Type 0} (xs : List A) (i j : ℕ) (x : A) → j ≢ i → slice_get (set xs i x) j ≡ slice_get xs j
slice_get-set_other [] i j x h = refl
slice_get-set_other (y ∷ ys) zero zero x h = absurd (h refl)
slice_get-set_other (y ∷ ys) zero (suc j) x h = refl
slice_get-set_other (y ∷ ys) (suc i) zero x h = refl
slice_get-set_other (y ∷ ys) (suc i) (suc j) x h = slice_get-set_other ys i j x (λ e. h (ap suc e))

row-set_same : {A : Type 0} (rows : List (List A)) (i j k : ℕ) (x : A) → k ≢ j → slice_get (get_or (set rows i (set (get_or rows i []) j x)) i []) k ≡ slice_get (get_or rows i []) k
row-set_same [] i j k x h = refl
row-set_same (row ∷ rows) zero j k x h = slice_get-set_other row j k x h
row-set_same (row ∷ rows) (suc i) j k x h = row-set_same rows i j k x h

-- the cell that was put at a place, and the cells at the others
pub cell_at-with_cell_same : {A : Type 0} (g : Grid A) (p : Position) (x : A) → IsEven g → IsInside g p → cell_at (with_cell g p x) p ≡ Some x
cell_at-with_cell_same g p x h i = grind (arith, common_steps, All-from_recursion, get_or-set_same, slice_get-set_same)

pub cell_at-with_cell_other : {A : Type 0} (g : Grid A) (p q : Position) (x : A) → q ≢ p → cell_at (with_cell g p x) q ≡ cell_at g q
cell_at-with_cell_other g p q x h = grind (arith, common_steps, cases_eq, row-set_same, get_or-set_other)

-- a text is written where a cell with that text is
pub texts_written : {A : Type 0} (text_of : A → List ℕ) (old new : Grid A) (p : Position) (text : List ℕ) → WritesText text_of old new p text → map_grid text_of new ≡ with_cell (map_grid text_of old) p text
texts_written text_of old new p text w = ap (map_grid text_of) w.is ∙ map_grid-with_cell text_of old p w.cell ∙ ap (with_cell (map_grid text_of old) p) w.has
