-- Lines grown, moved and shortened are the pieces of the old lines.
use Rattle.tabled_grid.proofs.Common.{[], ◌*◌, ◌+◌, ◌<◌, ◌∙◌, ◌∷◌, ◌≡◌, ◌≤◌, AddsLines, Axis, Bool, Columns, Grid, IsEven, List, PieceOrder, Position, Rows, Some, across, ap, arith, cell_at, common_steps, cond, count_along, div_ceil, div_ceil_times, first_along, get_or, get_or-take, map, mul-le-mul_right, ne_eqb, nth_piece, place_in, refl, row_fits, slice_get, suc, sym, take, zero, ℕ}
use Rattle.tabled_grid.proofs.FirstLines.{IsEven-first}
use Rattle.tabled_grid.proofs.AddedLines.{added_across, added_blank, added_count, added_even, added_kept}
use Rattle.tabled_grid.proofs.PiecesPut.{PutsPieces, piece_line, piece_number, same_across, same_count, source}
use Rattle.tabled_grid.proofs.Transposed.{slice_get-take}

-- a place has the cell of an old place, or a blank where that is past the end of a line
pub record ComesFrom {A : Type 0} (is_blank : A → Type 0) (old new : Grid A) (from to : Position) (j width : ℕ) : Type 0 where
  pub cell : j < width → cell_at new to ≡ cell_at old from
  pub blank : width ≤ j → (c : A) × is_blank c × (cell_at new to ≡ Some c)

-- the lines are the pieces of the old lines, all of them, filled up with blanks
pub record IsCut {A : Type 0} (is_blank : A → Type 0) (axis : Axis) (order : PieceOrder) (index lines width : ℕ) (old new : Grid A) : Type 0 where
  pub even : IsEven new
  pub count : count_along axis new ≡ lines * div_ceil width index
  pub wide : count_along (across axis) new ≡ index
  pub cells : (t b : ℕ) → t < lines * div_ceil width index → b < index →
      ComesFrom is_blank old new (source axis order index lines (div_ceil width index) t b) (place_in axis t b) ((nth_piece order lines (div_ceil width index) t).1 * index + b) width

across_twice : (axis : Axis) → across (across axis) ≡ axis
across_twice Rows = refl
across_twice Columns = refl

place_across : (axis : Axis) (i j : ℕ) → place_in (across axis) j i ≡ place_in axis i j
place_across Rows i j = refl
place_across Columns i j = refl

pub some_pieces : (pieces n width : ℕ) → 0 < width → width ≤ pieces * n → 0 < pieces
some_pieces zero n width h k = absurd (omega (arith, h, k))
some_pieces (suc pieces) n width h k = omega arith

pub enough_pieces : (pieces n width : ℕ) → 0 < n → pieces ≡ div_ceil width n → width ≤ pieces * n
enough_pieces pieces n width h e = rw e (div_ceil_times width n h).0

pub more_lines : (lines pieces : ℕ) → 0 < pieces → lines ≤ lines * pieces
more_lines lines pieces h = omega (arith, mul-le-mul_right {m = 1} {n = pieces} lines (omega (arith, h)))

module _ {A : Type 0} where
  pub rows_some : (axis : Axis) (g : Grid A) → 0 < count_along axis g → 0 < count_along (across axis) g → 0 < g.rows
  rows_some Rows g h k = h
  rows_some Columns g h k = k

  -- the first lines
  first_cells : (n : ℕ) (rows : List (List A)) (i j : ℕ) → i < n → slice_get (get_or (map (λ (row : List A). take n row) rows) j []) i ≡ slice_get (get_or rows j []) i
  first_cells n [] i j h = refl
  first_cells n (row ∷ rows) i zero h = slice_get-take n row i h
  first_cells n (row ∷ rows) i (suc j) h = first_cells n rows i j h

  first_kept : (axis : Axis) (g new : Grid A) (n i j : ℕ) → IsEven g → i < n → new ≡ first_along axis n g → cell_at new (place_in axis i j) ≡ cell_at g (place_in axis i j)
  first_kept Rows g new n i j even h is = ap (λ (h : Grid A). cell_at h (place_in Rows i j)) is ∙ ap (λ (row : List A). slice_get row j) (get_or-take n g.cells i [] h)
  first_kept Columns g new n i j even h is = ap (λ (h : Grid A). cell_at h (place_in Columns i j)) is ∙ first_cells n g.cells i j h

  first_count : (axis : Axis) (g new : Grid A) (n : ℕ) → new ≡ first_along axis n g → count_along axis new ≡ n
  first_count Rows g new n is = ap (λ (h : Grid A). h.rows) is
  first_count Columns g new n is = ap (λ (h : Grid A). h.columns) is

  first_across : (axis : Axis) (g new : Grid A) (n : ℕ) → 0 < n → new ≡ first_along axis n g → count_along (across axis) new ≡ count_along (across axis) g
  first_across Rows g new n some is = ap (λ (h : Grid A). h.columns) is ∙ ap (λ (b : Bool). cond b 0 g.columns) (ne_eqb n 0 (λ e. omega (arith, e, some)))
  first_across Columns g new n some is = ap (λ (h : Grid A). h.rows) is

  module _ (is_blank : A → Type 0) (axis : Axis) (order : PieceOrder) (index : ℕ) (lines width pieces more many : ℕ) (g wide tall : Grid A) (even : IsEven g) (lines_are : lines ≡ count_along axis g) (width_is : width ≡ count_along (across axis) g)
      (some : 0 < lines) (some_width : 0 < width) (more_is : width + more ≡ pieces * index) (many_is : lines + many ≡ lines * pieces)
      (widened : AddsLines is_blank (across axis) more g wide) (grown : AddsLines is_blank axis many wide tall) where
    wide_even : IsEven wide
    wide_even = added_even is_blank more g wide even (across axis) widened

    wide_lines : count_along axis wide ≡ lines
    wide_lines = (rw (across_twice axis) at (added_across is_blank more g wide even (across axis) widened)) ∙ sym lines_are

    wide_width : count_along (across axis) wide ≡ pieces * index
    wide_width = added_count is_blank more g wide even (across axis) (rows_some axis g (omega (arith, some, lines_are)) (omega (arith, some_width, width_is))) widened ∙ (omega (arith, width_is, more_is))

    pub tall_even : IsEven tall
    tall_even = added_even is_blank many wide tall wide_even axis grown

    pub tall_lines : count_along axis tall ≡ lines * pieces
    tall_lines = added_count is_blank many wide tall wide_even axis (rows_some axis wide (omega (arith, some, wide_lines)) (omega (arith, some_width, wide_width, more_is))) grown ∙ (omega (arith, wide_lines, many_is))

    pub tall_width : count_along (across axis) tall ≡ pieces * index
    tall_width = added_across is_blank many wide tall wide_even axis grown ∙ wide_width

    old_cell : (i j : ℕ) → i < lines → j < width → cell_at wide (place_in axis i j) ≡ cell_at g (place_in axis i j)
    old_cell i j h k = grind (arith, common_steps, added_kept, across_twice, place_across)

    blank_cell : (i j : ℕ) → i < lines → width ≤ j → j < pieces * index → (c : A) × is_blank c × (cell_at wide (place_in axis i j) ≡ Some c)
    blank_cell i j h k l =
        let read : (c : A) × is_blank c × (cell_at wide (place_in (across axis) j i) ≡ Some c) = added_blank is_blank more g wide even (across axis) j i widened (omega (arith, k, width_is)) (omega (arith, l, width_is, more_is)) (rw (across_twice axis) (omega (arith, h, lines_are))) in
        (rw (place_across axis i j) at read)

    tall_cell : (i j : ℕ) → i < lines → j < pieces * index → cell_at tall (place_in axis i j) ≡ cell_at wide (place_in axis i j)
    tall_cell i j h k = added_kept is_blank many wide tall wide_even axis i j grown (omega (arith, h, wide_lines)) (omega (arith, k, wide_width))

    module _ (put new : Grid A) (any : 0 < pieces) (some_index : 0 < index) (p : PutsPieces axis order index lines pieces tall put) (is : new ≡ first_along (across axis) index put) where
      new_even : IsEven new
      new_even =
          let fits : index ≤ count_along (across axis) put = omega (arith, same_across axis tall put p.shape, tall_width, row_fits 0 index pieces index any (omega arith)) in
          rw is (IsEven-first (across axis) index put fits p.shape.even)

      new_count : count_along axis new ≡ lines * pieces
      new_count = (rw (across_twice axis) at (first_across (across axis) put new index some_index is)) ∙ same_count axis tall put p.shape ∙ tall_lines

      new_cell : (t b : ℕ) → t < lines * pieces → b < index → cell_at new (place_in axis t b) ≡ cell_at wide (source axis order index lines pieces t b)
      new_cell t b h k =
          let number : ℕ = (nth_piece order lines pieces t).1 in
          let first : cell_at new (place_in (across axis) b t) ≡ cell_at put (place_in (across axis) b t) = first_kept (across axis) put new index b t p.shape.even k is in
          (rw (place_across axis t b) at first)
          ∙ p.done t b h k
          ∙ tall_cell (nth_piece order lines pieces t).0 (number * index + b) (piece_line order lines pieces t some any h) (omega (arith, k, row_fits number index pieces index (piece_number order lines pieces t some any h) (omega arith)))

      new_comes : (t b : ℕ) → t < lines * pieces → b < index → ComesFrom is_blank g new (source axis order index lines pieces t b) (place_in axis t b) ((nth_piece order lines pieces t).1 * index + b) width
      new_comes t b h k =
          let number : ℕ = (nth_piece order lines pieces t).1 in
          let from : ℕ = (nth_piece order lines pieces t).0 in
          record {
            cell = λ below. new_cell t b h k ∙ old_cell from (number * index + b) (piece_line order lines pieces t some any h) below;
            blank = λ past.
                let c = blank_cell from (number * index + b) (piece_line order lines pieces t some any h) past (omega (arith, k, row_fits number index pieces index (piece_number order lines pieces t some any h) (omega arith))) in
                (c.0, c.1, new_cell t b h k ∙ c.2);
          }

      pub cut_done : pieces ≡ div_ceil width index → IsCut is_blank axis order index lines width g new
      cut_done e = grind (arith, common_steps, new_even, new_count, first_count, source, new_comes)
