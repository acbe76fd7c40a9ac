-- Grids whose texts are known place by place.
use Rattle.tabled_steps.proofs.Common.{[], ◌<◌, ◌∙◌, ◌∷◌, ◌≡◌, All-from_recursion, AllByRecursion, Grid, IfSome, IsEven, IsEven-map_grid, IsInside, List, Option, Places, Position, ReadsThrough, Some, ap, arith, cell_at, cell_at-map_grid, get_or, get_or-map-range_with_len, length, length-map-range_with_len, map, map_grid, option_and_then, option_map, place, range_with_len, read, refl, slice_get, slice_get-get_or, sym, texts_by_place, unwrap_or, ℕ}
use Rattle.tabled_settings.proofs.SameCells.{same_cells}

abbrev row : ℕ → (Position → List ℕ) → ℕ → List (List ℕ)
row columns text i = map (λ (j : ℕ). text (place i j)) (range_with_len 0 columns)

wide : (columns : ℕ) (text : Position → List ℕ) (is : List ℕ) → AllByRecursion (λ (r : List (List ℕ)). length r ≡ columns) (map (row columns text) is)
wide columns text [] = tt
wide columns text (i ∷ is) = (length-map-range_with_len (λ (j : ℕ). text (place i j)) 0 columns, wide columns text is)

pub IsEven-table_of : (rows columns : ℕ) (text : Position → List ℕ) → IsEven (texts_by_place rows columns text)
IsEven-table_of rows columns text = record { tall = length-map-range_with_len (row columns text) 0 rows; wide = wide columns text (range_with_len 0 rows) }

pub cell_at-table_of : (rows columns : ℕ) (text : Position → List ℕ) (a b : ℕ) → a < rows → b < columns → cell_at (texts_by_place rows columns text) (place a b) ≡ Some (text (place a b))
cell_at-table_of rows columns text a b h k =
    let at_row : get_or (texts_by_place rows columns text).cells a [] ≡ row columns text a = get_or-map-range_with_len (row columns text) 0 rows a a [] h (omega arith) in
    let long : b < length (row columns text a) = omega (arith, length-map-range_with_len (λ (j : ℕ). text (place a j)) 0 columns, k) in
    ap (λ (r : List (List ℕ)). slice_get r b) at_row
    ∙ slice_get-get_or (row columns text a) b [] long
    ∙ ap Some (get_or-map-range_with_len (λ (j : ℕ). text (place a j)) 0 columns b b [] k (omega arith))

-- an even grid that has these texts is the table of them
pub is_table_of : {A : Type 0} (text_of : A → List ℕ) (g : Grid A) (rows columns : ℕ) (text : Position → List ℕ) → IsEven g → g.rows ≡ rows → g.columns ≡ columns → ((a b : ℕ) → a < rows → b < columns → cell_at (map_grid text_of g) (place a b) ≡ Some (text (place a b))) → map_grid text_of g ≡ texts_by_place rows columns text
is_table_of text_of g rows columns text even tall broad each = same_cells (map_grid text_of g) (texts_by_place rows columns text) (IsEven-map_grid text_of g even) (IsEven-table_of rows columns text) tall broad (λ a b h k. each a b h k ∙ sym (cell_at-table_of rows columns text a b h k))

-- there is a text at each place inside
pub some_text : (g : Grid (List ℕ)) (a b : ℕ) → IsEven g → a < g.rows → b < g.columns → (text : List ℕ) × (cell_at g (place a b) ≡ Some text)
some_text g a b even h k =
    let long = All-from_recursion _ g.cells even.wide a [] (omega (arith, even.tall, h)) in
    (_, slice_get-get_or (get_or g.cells a []) b [] (omega (arith, long, k)))

pub text_known : (o : Option (List ℕ)) (text : List ℕ) → o ≡ Some text → o ≡ Some (unwrap_or o [])
text_known o text is = rw is refl

module _ {A : Type 0} (text_of : A → List ℕ) (old new : Grid A) where
  -- a cell that comes from an old place has the text of that place
  pub text_from : (p q : Position) → cell_at new p ≡ cell_at old q → cell_at (map_grid text_of new) p ≡ cell_at (map_grid text_of old) q
  text_from p q is = cell_at-map_grid text_of new p ∙ ap (option_map text_of) is ∙ sym (cell_at-map_grid text_of old q)

  text_read : (p : Position) (o : Option Position) → (text : List ℕ) × (cell_at (map_grid text_of new) p ≡ Some text) → ((q : Position) → o ≡ Some q → cell_at new p ≡ cell_at old q) → (q : Position) × (o ≡ Some q) → cell_at (map_grid text_of new) p ≡ Some (unwrap_or (option_and_then (cell_at (map_grid text_of old)) o) [])
  text_read p o some from (q, is) =
      let same = text_from p q (from q is) in
      rw (is, ← same) (text_known _ some.0 some.1)

  -- the texts of a grid that is read through a map of places, each of which has an old one
  pub read_through : (places : Places) → ((p : Position) → (q : Position) × (places.old_place p ≡ Some q)) → ReadsThrough places old new → map_grid text_of new ≡ read places (map_grid text_of old)
  read_through places total reads = is_table_of text_of new places.size.height places.size.width (λ (p : Position). unwrap_or (option_and_then (cell_at (map_grid text_of old)) (places.old_place p)) []) reads.even reads.rows reads.columns (λ a b h k.
      let row : a < new.rows = omega (arith, reads.rows, h) in
      let col : b < new.columns = omega (arith, reads.columns, k) in
      let inside : IsInside new (place a b) = record { row = row; col = col } in
      text_read (place a b) (places.old_place (place a b)) (some_text (map_grid text_of new) a b (IsEven-map_grid text_of new reads.even) row col)
      (λ q is. moved_at (place a b) (places.old_place (place a b)) q is (reads.moved (place a b) inside)) (total (place a b)))
    where
      moved_at : (p : Position) (o : Option Position) (q : Position) → o ≡ Some q → IfSome o (λ (q : Position). cell_at new p ≡ cell_at old q) → cell_at new p ≡ cell_at old q
      moved_at p o q is h = rw is at h
