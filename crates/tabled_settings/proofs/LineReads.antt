-- The rows or the columns of a grid, one after another.
use Rattle.std.proofs.lemmas.Grind.{common_steps}
use Rattle.tabled_settings.proofs.Common.{[], ◌<◌, ◌∙◌, ◌∷◌, ◌≡◌, AllByRecursion, Axis, Columns, Grid, IsEven, IsEven-with_columns_swapped, IsEven-with_rows_swapped, IsInside, IsShapedAs, List, None, Option, Position, ReadsThrough, Rows, Some, Swapped, along, ap, ap₂, arith, cell_at, count_along, count_of, first_along, get_or, get_or-take, in_line, length, length-map, line_cells, line_of, lines_from, map, map-swap, refl, slice_get, slice_get-some, slice_get-take, swap, swapped_from_swap, sym, ℕ}
use Rattle.std.proofs.Math.ListN.{get_or-map}

-- a count of lines, by the rows and columns
pub counted : {A : Type 0} (axis : Axis) (g : Grid A) → count_of axis g.rows g.columns ≡ count_along axis g
counted Rows g = refl
counted Columns g = refl

-- maps that agree on what has a property
pub maps_agree_on : {X Y Z : Type 0} (P : X → Type 0) (f : Y → Z) (g : X → Y) (h : X → Z) → ((x : X) → P x → f (g x) ≡ h x) → (xs : List X) → AllByRecursion P xs → map f (map g xs) ≡ map h xs
maps_agree_on P f g h agree [] all = refl
maps_agree_on P f g h agree (x ∷ xs) all = ap₂ (λ y ys. y ∷ ys) (agree x all.0) (maps_agree_on P f g h agree xs all.1)

-- what stands at each place of a list, where two items are swapped
slots_swapped : {X : Type 0} (xs : List X) (i k : ℕ) → i < length xs → k < length xs → Swapped (slice_get xs) (slice_get (swap xs i k)) i k
slots_swapped {X} xs i k h l =
    let none : Option X = None in
    let long : length (map Some xs) ≡ length xs = length-map xs Some in
    let moved = swapped_from_swap (map Some xs) (map Some (swap xs i k)) i k none (omega (arith, long, h)) (omega (arith, long, l)) (map-swap Some xs i k) in
    let at : (m : ℕ) → get_or (map Some (swap xs i k)) m none ≡ slice_get (swap xs i k) m = slice_get-some (swap xs i k) in
    (sym (at i) ∙ moved.0 ∙ slice_get-some xs k, sym (at k) ∙ moved.1 ∙ slice_get-some xs i, λ m a b. sym (at m) ∙ moved.2 m a b ∙ slice_get-some xs m)

module _ {A : Type 0} where
  -- a column of rows in which two cells each are swapped
  column_swapped : (c j k m n : ℕ) (rows : List (List A)) → AllByRecursion (λ (row : List A). length row ≡ c) rows → ((row : List A) → length row ≡ c → slice_get (swap row j k) m ≡ slice_get row n) →
      map (λ (row : List A). slice_get row m) (map (λ (row : List A). swap row j k) rows) ≡ map (λ (row : List A). slice_get row n) rows
  column_swapped c j k m n rows wide same = maps_agree_on (λ (row : List A). length row ≡ c) (λ (row : List A). slice_get row m) (λ (row : List A). swap row j k) (λ (row : List A). slice_get row n) same rows wide

  pub lines_swapped : (axis : Axis) (g new : Grid A) (i k : ℕ) → IsEven g → i < count_along axis g → k < count_along axis g → new ≡ along axis (λ _ xs. swap xs i k) g → Swapped (line_cells axis g) (line_cells axis new) i k
  lines_swapped Rows g new i k even h l is = grind (arith, common_steps, swapped_from_swap)
  lines_swapped Columns g new j k even h l is =
      let cells : (m : ℕ) → line_cells Columns new m ≡ line_cells Columns (along Columns (λ _ xs. swap xs j k) g) m = λ m. ap (λ (h : Grid A). line_cells Columns h m) is in
      let slots : (row : List A) → length row ≡ g.columns → Swapped (slice_get row) (slice_get (swap row j k)) j k = λ row long. slots_swapped row j k (omega (arith, long, h)) (omega (arith, long, l)) in (
        cells j ∙ column_swapped g.columns j k j k g.cells even.wide (λ row long. (slots row long).0),
        cells k ∙ column_swapped g.columns j k k j g.cells even.wide (λ row long. (slots row long).1),
        λ m a b. cells m ∙ column_swapped g.columns j k m m g.cells even.wide (λ row long. (slots row long).2 m a b),
      )

  pub shape_swapped : (axis : Axis) (g new : Grid A) (i k : ℕ) → IsEven g → new ≡ along axis (λ _ xs. swap xs i k) g → IsShapedAs g new
  shape_swapped Rows g new i k even is = record { even = rw is (IsEven-with_rows_swapped g even i k); rows = ap (λ (h : Grid A). h.rows) is; columns = ap (λ (h : Grid A). h.columns) is }
  shape_swapped Columns g new i k even is = record { even = rw is (IsEven-with_columns_swapped g even i k); rows = ap (λ (h : Grid A). h.rows) is; columns = ap (λ (h : Grid A). h.columns) is }

  -- the first lines are as they were
  pub line_first : (axis : Axis) (g new : Grid A) (n i : ℕ) → IsEven g → i < n → new ≡ first_along axis n g → line_cells axis new i ≡ line_cells axis g i
  line_first Rows g new n i even h is = ap (λ (h : Grid A). line_cells Rows h i) is ∙ ap (map Some) (get_or-take n g.cells i [] h)
  line_first Columns g new n i even h is = grind (arith, common_steps, maps_agree_on, slice_get-take)

  -- a cell as one of its line
  abbrev cell_in_line : Axis → Grid A → Position → Option A
  cell_in_line Rows g p = get_or (line_cells Rows g p.row) p.col None
  cell_in_line Columns g p = get_or (line_cells Columns g p.col) p.row None

  cell_of_line : (axis : Axis) (g : Grid A) (p : Position) → cell_at g p ≡ cell_in_line axis g p
  cell_of_line Rows g p = sym (slice_get-some (get_or g.cells p.row []) p.col)
  cell_of_line Columns g p = sym (get_or-map (λ (row : List A). slice_get row p.col) g.cells p.row [])

  read_line : (axis : Axis) (g h : Grid A) (p : Position) (i : ℕ) → line_cells axis h (line_of axis p) ≡ line_cells axis g i → cell_in_line axis h p ≡ cell_in_line axis g (in_line axis p i)
  read_line Rows g h p i e = let none : Option A = None in ap (λ (cells : List (Option A)). get_or cells p.col none) e
  read_line Columns g h p i e = let none : Option A = None in ap (λ (cells : List (Option A)). get_or cells p.row none) e

  pub line_below : (axis : Axis) (h : Grid A) (p : Position) → IsInside h p → line_of axis p < count_along axis h
  line_below Rows h p inside = inside.row
  line_below Columns h p inside = inside.col

  -- a grid whose lines each come from an old one
  pub lines_read : (axis : Axis) (from : ℕ → ℕ) (rows columns : ℕ) (g h : Grid A) → IsEven h → h.rows ≡ rows → h.columns ≡ columns → ((i : ℕ) → i < count_along axis h → line_cells axis h i ≡ line_cells axis g (from i)) →
      ReadsThrough (lines_from axis from rows columns) g h
  lines_read axis from rows columns g h even tall wide each = record {
    even = even;
    rows = tall;
    columns = wide;
    moved = λ p inside. cell_of_line axis h p ∙ read_line axis g h p (from (line_of axis p)) (each (line_of axis p) (line_below axis h p inside)) ∙ sym (cell_of_line axis g (in_line axis p (from (line_of axis p))));
  }
