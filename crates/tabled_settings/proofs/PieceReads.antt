-- The pieces of a grid, read by place.
use Rattle.std.proofs.lemmas.Grind.{common_steps}
use Rattle.tabled_settings.proofs.Common.{[], ◌*◌, ◌++◌, ◌+◌, ◌<◌, ◌∙◌, ◌∷◌, ◌≡◌, All-filter, All-from_recursion, AllByRecursion, Axis, Bool, Columns, Concat, Grid, IsEven, IsInside, List, None, PieceOrder, Position, Retain, Rows, Some, Split, Zip, across, ap, ap₂, arith, at-transposed, cell_at, cond, count_along, cut_rows, div_ceil, false, filter, filter-append, get_or, get_or-map as get_or-map_within, get_or-map-range_with_len, get_or-range_with_len, length, length-map, length-map-range_with_len, length-range_with_len, length-transposed, line_cells, map, nth_piece, oriented, piece, piece_at, place, place_in, range_with_len, refl, slice_get, slice_get-get_or, slice_get-some, staying, stays, subst, suc, sym, transposed_rows, true, unwrap_or, unwrap_or-slice_get, wide-transposed, zero, zero-div, zero-mod, ℕ}
use Rattle.std.proofs.lemmas.List.{append-nil}
use Rattle.tabled_settings.proofs.SameCells.{same_cells}
use Rattle.tabled_settings.proofs.Rotated.{as_wide}
use Rattle.std.proofs.Math.ListN.{get_or-map}

-- the rows of a grid, or its columns as rows
module _ {A : Type 0} where
  pub turned_even : (axis : Axis) (g : Grid A) → IsEven g → 0 < count_along axis g → IsEven (oriented axis g)
  turned_even Rows g even some = even
  turned_even Columns g even some = record {
    tall = length-transposed g.columns g.cells even.wide;
    wide = subst (λ (n : ℕ). AllByRecursion (λ (row : List A). length row ≡ n) (transposed_rows g.columns g.cells)) (even.tall ∙ sym (as_wide g.columns g.rows some)) (wide-transposed g.columns g.cells);
  }

  pub turned_rows : (axis : Axis) (g : Grid A) → (oriented axis g).rows ≡ count_along axis g
  turned_rows Rows g = refl
  turned_rows Columns g = refl

  pub turned_columns : (axis : Axis) (g : Grid A) → 0 < count_along axis g → (oriented axis g).columns ≡ count_along (across axis) g
  turned_columns Rows g some = refl
  turned_columns Columns g some = as_wide g.columns g.rows some

  pub turned_count : (axis : Axis) (g : Grid A) → 0 < g.columns → count_along axis (oriented axis g) ≡ g.rows
  turned_count Rows g some = refl
  turned_count Columns g some = as_wide g.columns g.rows some

  pub turned_across : (axis : Axis) (g : Grid A) → count_along (across axis) (oriented axis g) ≡ g.columns
  turned_across Rows g = refl
  turned_across Columns g = refl

  pub turned_cell : (axis : Axis) (g : Grid A) (i j : ℕ) → IsEven g → cell_at (oriented axis g) (place i j) ≡ cell_at g (place_in axis i j)
  turned_cell Rows g i j even = refl
  turned_cell Columns g i j even = at-transposed g.columns g.cells i j even.wide

  pub turned_back : (axis : Axis) (g : Grid A) (i j : ℕ) → IsEven g → cell_at (oriented axis g) (place_in axis i j) ≡ cell_at g (place i j)
  turned_back Rows g i j even = refl
  turned_back Columns g i j even = at-transposed g.columns g.cells j i even.wide

  pub same_by_lines : (axis : Axis) (g h : Grid A) → IsEven g → IsEven h → count_along axis g ≡ count_along axis h → count_along (across axis) g ≡ count_along (across axis) h →
      ((i j : ℕ) → i < count_along axis h → j < count_along (across axis) h → cell_at g (place_in axis i j) ≡ cell_at h (place_in axis i j)) → g ≡ h
  same_by_lines Rows g h g_even h_even rows columns each = same_cells g h g_even h_even rows columns each
  same_by_lines Columns g h g_even h_even columns rows each = same_cells g h g_even h_even rows columns (λ a b l k. each b a k l)

  pub some_inside : (g : Grid A) (p : Position) (d : A) → IsEven g → IsInside g p → cell_at g p ≡ Some (unwrap_or (cell_at g p) d)
  some_inside g p d even inside = grind (arith, common_steps, All-from_recursion, slice_get-get_or, unwrap_or-slice_get)

pub filter_all : (p : ℕ → Bool) → ((x : ℕ) → p x ≡ true) → (xs : List ℕ) → filter p xs ≡ xs
filter_all p h [] = refl
filter_all p h (x ∷ xs) = rw (h x) (ap (λ (ys : List ℕ). x ∷ ys) (filter_all p h xs))

pub filter_alike : (p q : ℕ → Bool) (a n : ℕ) → ((x : ℕ) → x < a + n → p x ≡ q x) → filter p (range_with_len a n) ≡ filter q (range_with_len a n)
filter_alike p q a zero h = refl
filter_alike p q a (suc n) h = ap₂ (λ (b : Bool) (ys : List ℕ). cond b (a ∷ ys) ys) (h a (omega arith)) (filter_alike p q (a + 1) n (λ x l. h x (omega (arith, l))))

pub filter_below : (p : ℕ → Bool) (n k : ℕ) → k < length (filter p (range_with_len 0 n)) → get_or (filter p (range_with_len 0 n)) k 0 < n
filter_below p n k h = All-filter p (λ (x : ℕ). x < n) (range_with_len 0 n) (λ i d l. below i d l) k 0 h
  where
    below : (i d : ℕ) → i < length (range_with_len 0 n) → get_or (range_with_len 0 n) i d < n
    below i d l = let read = get_or-range_with_len 0 n i d (omega (arith, l, length-range_with_len 0 n)) in omega (arith, read, l, length-range_with_len 0 n)

pub filter_some : (p : ℕ → Bool) (n : ℕ) → 0 < n → p 0 ≡ true → 0 < length (filter p (range_with_len 0 n))
filter_some p zero h e = absurd (omega (arith, h))
filter_some p (suc n) h e = rw e (omega arith)

-- all pieces stay where they are retained
pub all_retained : (s : Split) (pieces : ℕ) (rows : List (List (List ℕ))) → s.display ≡ Retain → staying s pieces rows ≡ range_with_len 0 (length rows * pieces)
all_retained s pieces rows retained = grind (arith, common_steps, filter_all)

-- some numbers, and those after them
pub range_split : (a m n : ℕ) → range_with_len a (m + n) ≡ range_with_len a m ++ range_with_len (a + m) n
range_split a zero n = let all : 0 + n ≡ n = omega arith in let first : a + 0 ≡ a = omega arith in rw (all, first) refl
range_split a (suc m) n =
    let all : suc m + n ≡ suc (m + n) = omega arith in
    let next : (a + 1) + m ≡ a + suc m = omega arith in
    ap (range_with_len a) all ∙ ap (λ is. a ∷ is) (range_split (a + 1) m n ∙ ap (λ i. range_with_len (a + 1) m ++ range_with_len i n) next)

pub filter_more : (p : ℕ → Bool) (n m : ℕ) (stays : Bool) → m ≡ n + 1 → p n ≡ stays → filter p (range_with_len 0 m) ≡ filter p (range_with_len 0 n) ++ cond stays (n ∷ []) []
filter_more p n m stays next e = grind (arith, common_steps, range_split, filter-append)

pub filter_push : (p : ℕ → Bool) (n m : ℕ) (xs ys : List ℕ) → m ≡ n + 1 → p n ≡ true → xs ≡ filter p (range_with_len 0 n) → ys ≡ xs ++ n ∷ [] → ys ≡ filter p (range_with_len 0 m)
filter_push p n m xs ys next e are is = is ∙ ap (λ (zs : List ℕ). zs ++ n ∷ []) are ∙ sym (filter_more p n m true next e)

pub filter_skip : (p : ℕ → Bool) (n m : ℕ) (xs : List ℕ) → m ≡ n + 1 → p n ≡ false → xs ≡ filter p (range_with_len 0 n) → xs ≡ filter p (range_with_len 0 m)
filter_skip p n m xs next e are = are ∙ sym (filter_more p n m false next e ∙ append-nil (filter p (range_with_len 0 n)))

pub first_number : (o : PieceOrder) (lines pieces : ℕ) → (nth_piece o lines pieces 0).1 ≡ 0
first_number Zip lines pieces = zero-mod pieces
first_number Concat lines pieces = zero-div lines

-- a piece by its texts
pub length-piece : (n k : ℕ) (texts : List (List ℕ)) → length (piece n k texts) ≡ n
length-piece n k texts = length-map-range_with_len (λ (b : ℕ). get_or texts (k * n + b) []) 0 n

pub piece_text : (n k b : ℕ) (texts : List (List ℕ)) → b < n → get_or (piece n k texts) b [] ≡ get_or texts (k * n + b) []
piece_text n k b texts h = let none : List ℕ = [] in get_or-map-range_with_len (λ (b : ℕ). get_or texts (k * n + b) none) 0 n b b none h (omega arith)

module _ (s : Split) (pieces : ℕ) (rows : List (List (List ℕ))) where
  all_wide : (ts : List ℕ) → AllByRecursion (λ (row : List (List ℕ)). length row ≡ s.index) (map (piece_at s pieces rows) ts)
  all_wide [] = tt
  all_wide (t ∷ ts) = (length-piece s.index (nth_piece s.behavior (length rows) pieces t).1 (get_or rows (nth_piece s.behavior (length rows) pieces t).0 []), all_wide ts)

-- the grid of the pieces
module _ (s : Split) (g : Grid (List ℕ)) where
  abbrev count : ℕ
  count = div_ceil g.columns s.index

  pub cut_even : IsEven (cut_rows s g)
  cut_even = record { tall = refl; wide = all_wide s count g.cells (staying s count g.cells) }

  pub cut_count : (cut_rows s g).rows ≡ length (staying s count g.cells)
  cut_count = length-map (staying s count g.cells) (piece_at s count g.cells)

  pub cut_text : (a b : ℕ) → a < length (staying s count g.cells) → b < s.index → cell_at (cut_rows s g) (place a b) ≡ Some (get_or (piece_at s count g.cells (get_or (staying s count g.cells) a 0)) b [])
  cut_text a b h k = grind (arith, common_steps, get_or-map_within, slice_get-get_or, length-piece)

-- a grid whose lines are the pieces that stay is the grid of these pieces
pub pieces_are : (s : Split) (g new : Grid (List ℕ)) (pieces : ℕ) → IsEven g → IsEven new → 0 < count_along s.lines g → 0 < s.index → pieces ≡ div_ceil (count_along (across s.lines) g) s.index →
    count_along s.lines new ≡ length (staying s pieces (oriented s.lines g).cells) → count_along (across s.lines) new ≡ s.index →
    ((a b : ℕ) → a < length (staying s pieces (oriented s.lines g).cells) → b < s.index → cell_at new (place_in s.lines a b) ≡ Some (get_or (piece_at s pieces (oriented s.lines g).cells (get_or (staying s pieces (oriented s.lines g).cells) a 0)) b [])) →
    new ≡ oriented s.lines (cut_rows s (oriented s.lines g))
pieces_are s g new pieces even new_even some index pieces_is count wide each =
    let lines : Grid (List ℕ) = oriented s.lines g in
    let same : pieces ≡ div_ceil lines.columns s.index = pieces_is ∙ ap (λ (n : ℕ). div_ceil n s.index) (sym (turned_columns s.lines g some)) in
    let high : count_along s.lines (oriented s.lines (cut_rows s lines)) ≡ length (staying s (div_ceil lines.columns s.index) lines.cells) = turned_count s.lines (cut_rows s lines) index ∙ cut_count s lines in
    same_by_lines s.lines new (oriented s.lines (cut_rows s lines)) new_even (made_even s.lines (cut_rows s lines) (cut_even s lines) index)
    (count ∙ ap (λ (n : ℕ). length (staying s n lines.cells)) same ∙ sym high)
    (wide ∙ sym (turned_across s.lines (cut_rows s lines)))
    (λ a b h k.
    let a_in : a < length (staying s (div_ceil lines.columns s.index) lines.cells) = omega (arith, h, high) in
    let b_in : b < s.index = omega (arith, k, turned_across s.lines (cut_rows s lines)) in
    (rw same at each) a b a_in b_in
    ∙ sym (turned_back s.lines (cut_rows s lines) a b (cut_even s lines) ∙ cut_text s lines a b a_in b_in))
  where
    made_even : (axis : Axis) (h : Grid (List ℕ)) → IsEven h → 0 < h.columns → IsEven (oriented axis h)
    made_even Rows h h_even any = h_even
    made_even Columns h h_even any = turned_even Columns h h_even any

pub at_line : {A : Type 0} (axis : Axis) (g : Grid A) (i j : ℕ) → cell_at g (place_in axis i j) ≡ get_or (line_cells axis g i) j None
at_line Rows g i j = sym (slice_get-some (get_or g.cells i []) j)
at_line {A} Columns g i j = sym (get_or-map (λ (row : List A). slice_get row i) g.cells j [])
