-- Pieces that are all kept, glued together.
use Rattle.std.proofs.lemmas.Grind.{common_steps}
use Rattle.tabled_settings.proofs.Common.{[], ◌%◌, ◌*◌, ◌+◌, ◌-◌, ◌/◌, ◌<◌, ◌∙◌, ◌≡◌, ◌≤◌, All-from_recursion, AllByRecursion, Axis, Bool, Columns, Concat, Grid, IsEven, List, PieceOrder, Retain, Rows, Some, Split, Zip, across, ap, ap₂, arith, back_read, cell_at, cond, count_along, cut_rows, div-add-mod', div_below, div_ceil, enough_pieces, false, flat_map, front_read, get_or, get_or-map-range_with_len, get_or-range_with_len, glue_rows, glued, glued_line, has_pieces, length, length-append, length-map-range_with_len, length-range_with_len, length-take-le, lt-ltb, ltb-false, ltb-true, map, mod_below, nat_lt, nth_piece, oriented, piece_at, piece_index, place, range_with_len, refl, row_fits, slice_get, slice_get-get_or, slice_get-take, some_pieces, split, staying, suc, sym, true, zero, ℕ}
use Rattle.tabled_settings.proofs.PieceReads.{all_retained, cut_count, cut_even, cut_text, piece_text, same_by_lines, turned_across, turned_back, turned_cell, turned_columns, turned_count, turned_even, turned_rows}
use Rattle.tabled_grid.proofs.PiecesPut.{piece_index_below, piece_of}
use Rattle.tabled_settings.proofs.LineReads.{counted}
use Rattle.tabled_settings.proofs.SameCells.{same_cells}

-- blocks of as many items, one after the other
module _ {A : Type 0} (f : ℕ → List A) (n : ℕ) where
  pub length-blocks : (a m : ℕ) → ((k : ℕ) → k < a + m → length (f k) ≡ n) → length (flat_map f (range_with_len a m)) ≡ m * n
  length-blocks a zero wide = omega arith
  length-blocks a (suc m) wide = omega (arith, length-append (f a) (flat_map f (range_with_len (a + 1) m)), wide a (omega arith), length-blocks (a + 1) m (λ k h. wide k (omega (arith, h))))

  pub block_read : (a m k b : ℕ) → k < m → b < n → ((k : ℕ) → k < a + m → length (f k) ≡ n) → slice_get (flat_map f (range_with_len a m)) (k * n + b) ≡ slice_get (f (a + k)) b
  block_read a zero k b h l wide = absurd (omega (arith, h))
  block_read a (suc m) zero b h l wide = grind (arith, common_steps, front_read)
  block_read a (suc m) (suc k) b h l wide =
      let here : length (f a) ≡ n = wide a (omega arith) in
      let at : suc k * n + b - length (f a) ≡ k * n + b = omega (arith, here) in
      let same : (a + 1) + k ≡ a + suc k = omega arith in
      back_read (f a) (flat_map f (range_with_len (a + 1) m)) (suc k * n + b) (omega (arith, here))
      ∙ ap (slice_get (flat_map f (range_with_len (a + 1) m))) at
      ∙ block_read (a + 1) m k b (omega (arith, h)) l (λ k h. wide k (omega (arith, h)))
      ∙ ap (λ (k : ℕ). slice_get (f k) b) same

-- rows of pieces of n cells, of which each cell of a line is in its place
module _ {A : Type 0} (s : Split) (lines width pieces n : ℕ) (g h : Grid A) (even : IsEven g) (h_even : IsEven h) (lines_are : lines ≡ g.rows) (width_is : width ≡ g.columns) (pieces_is : pieces ≡ div_ceil width s.index) (some : 0 < n) (fits : width ≤ pieces * n)
    (tall : h.rows ≡ lines * pieces) (narrow : h.columns ≡ n)
    (each : (i k b : ℕ) → i < lines → k < pieces → b < n → k * n + b < width → cell_at h (place (piece_index s.behavior lines pieces i k) b) ≡ cell_at g (place i (k * n + b))) where
  abbrev block : ℕ → ℕ → List A
  block i k = get_or h.cells (piece_index s.behavior lines pieces i k) []

  wide : (i : ℕ) → i < lines → (k : ℕ) → k < 0 + pieces → length (block i k) ≡ n
  wide i l k m = All-from_recursion _ h.cells h_even.wide (piece_index s.behavior lines pieces i k) [] (omega (arith, h_even.tall, tall, piece_index_below s.behavior lines pieces i k l (omega (arith, m)))) ∙ narrow

  long : (i : ℕ) → i < lines → length (glued_line s.behavior lines pieces width h.cells i) ≡ width
  long i l = length-take-le width (flat_map (block i) (range_with_len 0 pieces)) (omega (arith, fits, length-blocks (block i) n 0 pieces (wide i l)))

  read : (i j : ℕ) → i < lines → j < width → slice_get (glued_line s.behavior lines pieces width h.cells i) j ≡ cell_at g (place i j)
  read i j l m =
      let k : ℕ = j / n in
      let b : ℕ = j % n in
      let at : k * n + b ≡ j = div-add-mod' j n in
      let k_in : k < pieces = div_below j n pieces some (omega (arith, m, fits)) in
      let b_in : b < n = mod_below j n some in
      let first : 0 + k ≡ k = omega arith in
      slice_get-take width (flat_map (block i) (range_with_len 0 pieces)) j m
      ∙ ap (slice_get (flat_map (block i) (range_with_len 0 pieces))) (sym at)
      ∙ block_read (block i) n 0 pieces k b k_in b_in (wide i l)
      ∙ ap (λ (k : ℕ). slice_get (block i k) b) first
      ∙ each i k b l k_in b_in (omega (arith, at, m))
      ∙ ap (λ (j : ℕ). cell_at g (place i j)) at

  all_long : (a m : ℕ) → a + m ≤ lines → AllByRecursion (λ (row : List A). length row ≡ width) (map (glued_line s.behavior lines pieces width h.cells) (range_with_len a m))
  all_long a zero l = tt
  all_long a (suc m) l = (long a (omega (arith, l)), all_long (a + 1) m (omega (arith, l)))

  abbrev made : Grid A
  made = record { rows = lines; columns = width; cells = map (glued_line s.behavior lines pieces width h.cells) (range_with_len 0 lines) }

  made_even : IsEven made
  made_even = record { tall = length-map-range_with_len (glued_line s.behavior lines pieces width h.cells) 0 lines; wide = all_long 0 lines (omega arith) }

  pub rows_glued : glue_rows s lines width h ≡ g
  rows_glued = grind (arith, common_steps, same_cells, made_even, get_or-map-range_with_len, read)

turned_twice : {A : Type 0} (axis : Axis) (g : Grid A) → IsEven g → 0 < count_along axis g → 0 < count_along (across axis) g → oriented axis (oriented axis g) ≡ g
turned_twice Rows g even some any = refl
turned_twice Columns g even some any =
    let half : IsEven (oriented Columns g) = turned_even Columns g even some in
    let high : (oriented Columns g).columns ≡ g.rows = turned_columns Columns g some in
    same_by_lines Columns (oriented Columns (oriented Columns g)) g (turned_even Columns (oriented Columns g) half (omega (arith, high, any))) even
    (turned_count Columns (oriented Columns g) (omega (arith, high, any))) (turned_across Columns (oriented Columns g) ∙ high)
    (λ i j l m. turned_back Columns (oriented Columns g) i j half ∙ turned_cell Columns g i j even)

pub turned_back_twice : (axis : Axis) (c : Grid (List ℕ)) → IsEven c → 0 < c.rows → 0 < c.columns → oriented axis (oriented axis c) ≡ c
turned_back_twice Rows c c_even k l = turned_twice Rows c c_even k l
turned_back_twice Columns c c_even k l = turned_twice Columns c c_even l k

pub one_piece_each : (pieces n width : ℕ) → 0 < width → width ≤ n → pieces ≡ div_ceil width n → pieces ≡ 1
one_piece_each pieces n width some h e = grind (arith, common_steps)

index_of_one : (o : PieceOrder) (lines i : ℕ) → piece_index o lines 1 i 0 ≡ i
index_of_one Zip lines i = omega arith
index_of_one Concat lines i = omega arith

-- the retained pieces of a grid, glued, are the grid
module _ (s : Split) (g : Grid (List ℕ)) (even : IsEven g) (retained : s.display ≡ Retain) (some : 0 < g.rows) (index : 0 < s.index) (narrow : s.index < g.columns) where
  abbrev pieces : ℕ
  pieces = div_ceil g.columns s.index

  enough : g.columns ≤ pieces * s.index
  enough = enough_pieces (div_ceil g.columns s.index) s.index g.columns index refl

  all : staying s pieces g.cells ≡ range_with_len 0 (length g.cells * pieces)
  all = all_retained s pieces g.cells retained

  count : length (staying s pieces g.cells) ≡ g.rows * pieces
  count = ap length all ∙ length-range_with_len 0 (length g.cells * pieces) ∙ ap (λ (n : ℕ). n * pieces) even.tall

  cut_cell : (i k b : ℕ) → i < g.rows → k < pieces → b < s.index → k * s.index + b < g.columns → cell_at (cut_rows s g) (place (piece_index s.behavior g.rows pieces i k) b) ≡ cell_at g (place i (k * s.index + b))
  cut_cell i k b h l m within =
      let none : List ℕ = [] in
      let t : ℕ = piece_index s.behavior g.rows pieces i k in
      let t_in : t < length g.cells * pieces = omega (arith, piece_index_below s.behavior (length g.cells) pieces i k (omega (arith, h, even.tall)) l, even_index i k) in
      let row_long = All-from_recursion _ g.cells even.wide i [] (omega (arith, even.tall, h)) in
      let same : nth_piece s.behavior (length g.cells) pieces t ≡ (i, k) = ap (λ (n : ℕ). nth_piece s.behavior n pieces t) even.tall ∙ piece_of s.behavior g.rows pieces i k h l in
      let at : get_or (range_with_len 0 (length g.cells * pieces)) t 0 ≡ 0 + t = get_or-range_with_len 0 (length g.cells * pieces) t 0 t_in in
      let first : 0 + t ≡ t = omega arith in
      cut_text s g t b (omega (arith, t_in, ap length all, length-range_with_len 0 (length g.cells * pieces))) m
      ∙ ap (λ (u : ℕ). Some (get_or (piece_at s pieces g.cells u) b none)) (ap (λ (ts : List ℕ). get_or ts t 0) all ∙ at ∙ first)
      ∙ ap Some (piece_text s.index (nth_piece s.behavior (length g.cells) pieces t).1 b (get_or g.cells (nth_piece s.behavior (length g.cells) pieces t).0 []) m)
      ∙ ap (λ (q : ℕ × ℕ). Some (get_or (get_or g.cells q.0 []) (q.1 * s.index + b) none)) same
      ∙ sym (slice_get-get_or (get_or g.cells i []) (k * s.index + b) none (omega (arith, row_long, within)))
    where
      even_index : (i k : ℕ) → piece_index s.behavior (length g.cells) pieces i k ≡ piece_index s.behavior g.rows pieces i k
      even_index i k = ap (λ (n : ℕ). piece_index s.behavior n pieces i k) even.tall

  pub cut_glued : (h : Grid (List ℕ)) → h ≡ cut_rows s g → glue_rows s g.rows g.columns h ≡ g
  cut_glued h is = grind (arith, common_steps, rows_glued, cut_even, enough, cut_count, count, cut_cell)

-- a grid whose rows are no longer than a piece
uncut_glued : (s : Split) (g : Grid (List ℕ)) → IsEven g → 0 < g.columns → g.columns ≤ s.index → glue_rows s g.rows g.columns g ≡ g
uncut_glued s g even some wide =
    let one : div_ceil g.columns s.index ≡ 1 = one_piece_each (div_ceil g.columns s.index) s.index g.columns some wide refl in
    rows_glued s g.rows g.columns 1 g.columns g g even even refl refl (sym one) some (omega arith) (omega arith) refl
    (λ i k b h l m within. place_of i k b (omega (arith, l)))
  where
    place_of : (i k b : ℕ) → k ≡ 0 → cell_at g (place (piece_index s.behavior g.rows 1 i k) b) ≡ cell_at g (place i (k * g.columns + b))
    place_of i k b none =
        let at : b ≡ 0 * g.columns + b = omega arith in
        rw none (ap (λ (a : ℕ). cell_at g (place a b)) (index_of_one s.behavior g.rows i) ∙ ap (λ (j : ℕ). cell_at g (place i j)) at)

has_if : (s : Split) (g : Grid (List ℕ)) (b : Bool) → nat_lt s.index (count_along (across s.lines) g) ≡ b → 0 < count_along s.lines g → 0 < s.index → has_pieces s g.rows g.columns ≡ b
has_if s g b e some index = rw (counted s.lines g, counted (across s.lines) g, lt-ltb 0 (count_along s.lines g) some, lt-ltb 0 s.index index) e

pub split_glued : (s : Split) (g h : Grid (List ℕ)) → IsEven g → s.display ≡ Retain → 0 < g.rows → 0 < g.columns → 0 < s.index → h ≡ split s g → glued s g.rows g.columns h ≡ g
split_glued s g h even retained some_rows some_columns index is =
    rw (counted s.lines g, counted (across s.lines) g) (ap (oriented s.lines) (lines_glued (nat_lt s.index (count_along (across s.lines) g)) refl) ∙ turned_twice s.lines g even some any)
  where
    some_of : (axis : Axis) → 0 < count_along axis g
    some_of Rows = some_rows
    some_of Columns = some_columns

    some : 0 < count_along s.lines g
    some = some_of s.lines

    any : 0 < count_along (across s.lines) g
    any = some_of (across s.lines)

    lines : Grid (List ℕ)
    lines = oriented s.lines g

    lines_even : IsEven (oriented s.lines g)
    lines_even = turned_even s.lines g even some

    high : (oriented s.lines g).rows ≡ count_along s.lines g
    high = turned_rows s.lines g

    wide : (oriented s.lines g).columns ≡ count_along (across s.lines) g
    wide = turned_columns s.lines g some

    lines_glued : (b : Bool) → nat_lt s.index (count_along (across s.lines) g) ≡ b → glue_rows s (count_along s.lines g) (count_along (across s.lines) g) (oriented s.lines h) ≡ oriented s.lines g
    lines_glued true e =
        let narrow : s.index < (oriented s.lines g).columns = omega (arith, ltb-true s.index (count_along (across s.lines) g) e, wide) in
        let cut : Grid (List ℕ) = cut_rows s (oriented s.lines g) in
        let made : h ≡ oriented s.lines (cut_rows s (oriented s.lines g)) = is ∙ ap (λ (b : Bool). cond b (oriented s.lines (cut_rows s (oriented s.lines g))) g) (has_if s g true e some index) in
        let tall : 0 < (cut_rows s (oriented s.lines g)).rows = omega (arith, cut_count s (oriented s.lines g), count s (oriented s.lines g) lines_even retained (omega (arith, high, some)) index narrow, more_some (oriented s.lines g).rows (div_ceil (oriented s.lines g).columns s.index) (omega (arith, high, some)) (some_pieces (div_ceil (oriented s.lines g).columns s.index) s.index (oriented s.lines g).columns (omega (arith, wide, any)) (enough_pieces (div_ceil (oriented s.lines g).columns s.index) s.index (oriented s.lines g).columns index refl))) in
        ap₂ (λ (r c : ℕ). glue_rows s r c (oriented s.lines h)) (sym high) (sym wide)
        ∙ cut_glued s (oriented s.lines g) lines_even retained (omega (arith, high, some)) index narrow (oriented s.lines h) (ap (oriented s.lines) made ∙ turned_back_twice s.lines cut (cut_even s (oriented s.lines g)) tall index)
      where
        more_some : (a b : ℕ) → 0 < a → 0 < b → 0 < a * b
        more_some a b k l = omega (arith, row_fits 0 a b a l (omega arith), k)
    lines_glued false e =
        let short : (oriented s.lines g).columns ≤ s.index = omega (arith, ltb-false s.index (count_along (across s.lines) g) e, wide) in
        let same : h ≡ g = is ∙ ap (λ (b : Bool). cond b (oriented s.lines (cut_rows s (oriented s.lines g))) g) (has_if s g false e some index) in
        ap₂ (λ (r c : ℕ). glue_rows s r c (oriented s.lines h)) (sym high) (sym wide)
        ∙ ap (λ (k : Grid (List ℕ)). glue_rows s (oriented s.lines g).rows (oriented s.lines g).columns (oriented s.lines k)) same
        ∙ uncut_glued s (oriented s.lines g) lines_even (omega (arith, wide, any)) short
