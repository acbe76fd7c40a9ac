-- Cells swapped to the fronts of the lines that become pieces.
use Rattle.std.proofs.lemmas.Nat.{div-mul-add, mod-mul-add}
use Rattle.tabled_grid.proofs.Common.{◌*◌, ◌+◌, ◌<◌, ◌∙◌, ◌≡◌, ◌≢◌, ◌≤◌, ◌⊎◌, All-from_recursion, Axis, Columns, Concat, Grid, IsEven, IsInside, IsPiece, IsShapedAs, None, Option, PieceOrder, Position, Rows, Some, Zip, across, ap, ap₂, arith, cases_eq, cases_lt, cell_at, common_steps, count_along, div-add-mod', div-le_self, div_below, inl, inr, mod-le, mod_below, nth_piece, piece_index, place_in, refl, row_fits, rules, same_from_place, slice_get_cases, sym, with_cell_if, with_cells_swapped, ℕ}
use Rattle.tabled_grid.proofs.Grids.{cell_at-with_cell_other, cell_at-with_cell_same}
use Rattle.tabled_grid.proofs.Resized.{IsEven-with_cell_if, IsEven-with_cells_swapped}

-- the place where a cell of the t-th piece comes from
abbrev pub source : Axis → PieceOrder → ℕ → ℕ → ℕ → ℕ → ℕ → Position
source axis order index lines pieces t b = place_in axis (nth_piece order lines pieces t).0 ((nth_piece order lines pieces t).1 * index + b)

-- the pieces from t on, and of the one before it the cells before b, are in their places; the others have not moved yet
pub record MovesPieces {A : Type 0} (axis : Axis) (order : PieceOrder) (index lines pieces t b : ℕ) (old new : Grid A) : Type 0 where
  pub shape : IsShapedAs old new
  pub done : (u j : ℕ) → u < lines * pieces → j < index → (t ≤ u) ⊎ ((u + 1 ≡ t) × (j < b)) → cell_at new (place_in axis u j) ≡ cell_at old (source axis order index lines pieces u j)
  pub left : (u j : ℕ) → u < lines * pieces → j < index → (u + 1 < t) ⊎ ((u + 1 ≡ t) × (b ≤ j)) → cell_at new (source axis order index lines pieces u j) ≡ cell_at old (source axis order index lines pieces u j)

-- each cell of each piece is in its place
pub record PutsPieces {A : Type 0} (axis : Axis) (order : PieceOrder) (index lines pieces : ℕ) (old new : Grid A) : Type 0 where
  pub shape : IsShapedAs old new
  pub done : (t b : ℕ) → t < lines * pieces → b < index → cell_at new (place_in axis t b) ≡ cell_at old (source axis order index lines pieces t b)

-- shapes
pub same_count : {A : Type 0} (axis : Axis) (g new : Grid A) → IsShapedAs g new → count_along axis new ≡ count_along axis g
same_count Rows g new s = s.rows
same_count Columns g new s = s.columns

pub same_shape : {A : Type 0} (g : Grid A) → IsEven g → IsShapedAs g g
same_shape g even = record { even = even; rows = refl; columns = refl }

pub shape_after : {A : Type 0} (g h new : Grid A) → IsShapedAs g h → IsShapedAs h new → IsShapedAs g new
shape_after g h new s t = record { even = t.even; rows = t.rows ∙ s.rows; columns = t.columns ∙ s.columns }

pub inside_of : {A : Type 0} (axis : Axis) (g : Grid A) (i j : ℕ) → i < count_along axis g → j < count_along (across axis) g → IsInside g (place_in axis i j)
inside_of Rows g i j h k = record { row = h; col = k }
inside_of Columns g i j h k = record { row = k; col = h }

-- equal places are of one line
pub same_place_in : (axis : Axis) (i j k l : ℕ) → place_in axis i j ≡ place_in axis k l → (i ≡ k) × (j ≡ l)
same_place_in Rows i j k l e = (ap (λ (p : Position). p.row) e, ap (λ (p : Position). p.col) e)
same_place_in Columns i j k l e = (ap (λ (p : Position). p.col) e, ap (λ (p : Position). p.row) e)

pub same_across : {A : Type 0} (axis : Axis) (g new : Grid A) → IsShapedAs g new → count_along (across axis) new ≡ count_along (across axis) g
same_across Rows g new s = s.columns
same_across Columns g new s = s.rows

-- a piece comes from a line, is one of its pieces, and from no later line than its own
pub piece_line : (o : PieceOrder) (lines pieces t : ℕ) → 0 < lines → 0 < pieces → t < lines * pieces → (nth_piece o lines pieces t).0 < lines
piece_line Zip lines pieces t h k l = div_below t pieces lines k l
piece_line Concat lines pieces t h k l = mod_below t lines h

pub piece_number : (o : PieceOrder) (lines pieces t : ℕ) → 0 < lines → 0 < pieces → t < lines * pieces → (nth_piece o lines pieces t).1 < pieces
piece_number Zip lines pieces t h k l = mod_below t pieces k
piece_number Concat lines pieces t h k l = div_below t lines pieces h (omega (arith, l))

-- the piece that comes t-th has t pieces before it
pub is_piece : (o : PieceOrder) (lines pieces t : ℕ) → 0 < lines → 0 < pieces → t < lines * pieces → IsPiece o lines pieces t (nth_piece o lines pieces t).0 (nth_piece o lines pieces t).1
is_piece o lines pieces t some any h = grind (arith, common_steps, piece_line, piece_number, div-add-mod')

piece_before : (o : PieceOrder) (lines pieces t : ℕ) → (nth_piece o lines pieces t).0 ≤ t
piece_before Zip lines pieces t = div-le_self t pieces
piece_before Concat lines pieces t = mod-le t lines

-- the piece of a line and a number
pub piece_of : (o : PieceOrder) (lines pieces i k : ℕ) → i < lines → k < pieces → nth_piece o lines pieces (piece_index o lines pieces i k) ≡ (i, k)
piece_of Zip lines pieces i k h l = ap₂ (λ (a b : ℕ). (a, b)) (div-mul-add i pieces k l) (mod-mul-add i pieces k l)
piece_of Concat lines pieces i k h l = ap₂ (λ (a b : ℕ). (a, b)) (mod-mul-add k lines i h) (div-mul-add k lines i h)

pub piece_index_below : (o : PieceOrder) (lines pieces i k : ℕ) → i < lines → k < pieces → piece_index o lines pieces i k < lines * pieces
piece_index_below Zip lines pieces i k h l = omega (arith, row_fits i pieces lines pieces h (omega arith), l)
piece_index_below Concat lines pieces i k h l = omega (arith, row_fits k lines pieces lines l (omega arith), h)

-- a line and a number are those of one piece
pub one_piece : (o : PieceOrder) (lines pieces t u : ℕ) → (nth_piece o lines pieces t).0 ≡ (nth_piece o lines pieces u).0 → (nth_piece o lines pieces t).1 ≡ (nth_piece o lines pieces u).1 → t ≡ u
one_piece Zip lines pieces t u e f = sym (div-add-mod' t pieces) ∙ ap₂ (λ (a b : ℕ). a * pieces + b) e f ∙ div-add-mod' u pieces
one_piece Concat lines pieces t u e f = sym (div-add-mod' t lines) ∙ ap₂ (λ (a b : ℕ). b * lines + a) e f ∙ div-add-mod' u lines

module _ {A : Type 0} (g new : Grid A) (p q : Position) (even : IsEven g) (at_p : IsInside g p) (at_q : IsInside g q) (is : new ≡ with_cells_swapped g p q) where
  abbrev half : Grid A
  half = with_cell_if g p (cell_at g q)

  half_even : IsEven half
  half_even = IsEven-with_cell_if g p (cell_at g q) even

  -- the cell of the first place comes to the second one
  set_there : (o : Option A) (h : Grid A) → IsEven h → IsInside h q → (o ≡ None → ⊥) → cell_at (with_cell_if h q o) q ≡ o
  set_there None h h_even inside some = absurd (some refl)
  set_there (Some x) h h_even inside some = cell_at-with_cell_same h q x h_even inside

  not_some : (x : A) → None ≡ Some x → ⊥
  not_some x e = cc

  some_at : cell_at g p ≡ None → ⊥
  some_at none = grind (arith, common_steps, slice_get_cases, not_some, All-from_recursion)

  set_else : (o : Option A) (h : Grid A) (s r : Position) → r ≢ s → cell_at (with_cell_if h s o) r ≡ cell_at h r
  set_else None h s r apart = refl
  set_else (Some x) h s r apart = cell_at-with_cell_other h s r x apart

  pub swapped_there : cell_at new q ≡ cell_at g p
  swapped_there = ap (λ (h : Grid A). cell_at h q) is ∙ set_there (cell_at g p) half half_even (record { row = at_q.row; col = at_q.col }) some_at

  pub swapped_else : (r : Position) → r ≢ p → r ≢ q → cell_at new r ≡ cell_at g r
  swapped_else r off_p off_q = ap (λ (h : Grid A). cell_at h r) is ∙ set_else (cell_at g p) half q r off_q ∙ set_else (cell_at g q) g p r off_p

module _ (axis : Axis) (order : PieceOrder) (index : ℕ) (lines pieces : ℕ) (some_lines : 0 < lines) (some_pieces : 0 < pieces) where
  pub source_apart : (t b u j : ℕ) → b < index → j < index → source axis order index lines pieces t b ≡ source axis order index lines pieces u j → (t ≡ u) × (b ≡ j)
  source_apart t b u j h k e =
      let lines_are = same_place_in axis _ _ _ _ e in
      let numbers_are = same_from_place (nth_piece order lines pieces t).1 b (nth_piece order lines pieces u).1 j index h k lines_are.1 in
      (one_piece order lines pieces t u lines_are.0 numbers_are.0, numbers_are.1)

  module _ {A : Type 0} where
    pub puts_none : (t : ℕ) (g : Grid A) → IsEven g → lines * pieces ≤ t → MovesPieces axis order index lines pieces t 0 g g
    puts_none t g even all = grind (arith, common_steps, same_shape)

    -- a piece is whole
    pub puts_piece : (t n b : ℕ) (g cur : Grid A) → n ≡ t + 1 → index ≤ b → MovesPieces axis order index lines pieces n b g cur → MovesPieces axis order index lines pieces t 0 g cur
    puts_piece t n b g cur next whole p = grind (arith, common_steps, cases_lt)

    pub puts_all : (t : ℕ) (g cur : Grid A) → t ≤ 0 → MovesPieces axis order index lines pieces t 0 g cur → PutsPieces axis order index lines pieces g cur
    puts_all t g cur none p = record { shape = p.shape; done = λ u j h k. p.done u j h k (inl (omega (arith, none))) }

    -- one cell more
    module _ (t n b next : ℕ) (g cur new : Grid A) (after : n ≡ t + 1) (e : next ≡ b + 1) (within : t < lines * pieces) (b_in : b < index) (p : MovesPieces axis order index lines pieces n b g cur)
        (count : count_along axis cur ≡ lines * pieces) (wide : count_along (across axis) cur ≡ pieces * index) (is : new ≡ with_cells_swapped cur (source axis order index lines pieces t b) (place_in axis t b)) where
      line_in : (nth_piece order lines pieces t).0 < lines * pieces
      line_in = omega (arith, piece_before order lines pieces t, within)

      pub source_in : IsInside cur (source axis order index lines pieces t b)
      source_in = grind (arith, common_steps, inside_of, line_in, row_fits, piece_number)

      pub place_is_in : IsInside cur (place_in axis t b)
      place_is_in = inside_of axis cur t b (omega (arith, within, count)) (omega (arith, wide, b_in, row_fits 0 index pieces index some_pieces (omega arith)))

      there : cell_at new (place_in axis t b) ≡ cell_at cur (source axis order index lines pieces t b)
      there = swapped_there cur new (source axis order index lines pieces t b) (place_in axis t b) p.shape.even source_in place_is_in is

      else : (r : Position) → r ≢ source axis order index lines pieces t b → r ≢ place_in axis t b → cell_at new r ≡ cell_at cur r
      else = swapped_else cur new (source axis order index lines pieces t b) (place_in axis t b) p.shape.even source_in place_is_in is

      done_in : (u j : ℕ) → u < lines * pieces → j < index → u ≡ t → (j ≡ b) ⊎ (j ≢ b) → j < next → cell_at new (place_in axis u j) ≡ cell_at g (source axis order index lines pieces u j)
      done_in u j h k at (inl same) less = rw (at, same) (there ∙ p.left t b within b_in (inr (sym after, omega arith)))
      done_in u j h k at (inr off) less = grind (arith, common_steps, else, same_place_in)

      done_at : (u j : ℕ) → u < lines * pieces → j < index → (n ≤ u) ⊎ ((u + 1 ≡ n) × (j < next)) → cell_at new (place_in axis u j) ≡ cell_at g (source axis order index lines pieces u j)
      done_at u j h k (inl more) = grind (arith, common_steps, else, same_place_in, piece_before)
      done_at u j h k (inr m) = done_in u j h k (omega (arith, m.0, after)) (cases_eq j b) m.1

      left_at : (u j : ℕ) → u < lines * pieces → j < index → (u + 1 < n) ⊎ ((u + 1 ≡ n) × (next ≤ j)) → cell_at new (source axis order index lines pieces u j) ≡ cell_at g (source axis order index lines pieces u j)
      left_at u j h k (inl less) = grind (arith, common_steps, else, source_apart, same_place_in, piece_before)
      left_at u j h k (inr m) = grind (arith, common_steps, else, source_apart, same_place_in)

      pub puts_more : MovesPieces axis order index lines pieces n next g new
      puts_more = search (rules, shape_after, IsEven-with_cells_swapped, done_at, left_at)
