-- Where the cells of pieces come from, by their places.
use Rattle.tabled_grid.proofs.Common.{◌%◌, ◌*◌, ◌+◌, ◌/◌, ◌<◌, ◌∙◌, ◌≡◌, ◌≤◌, Axis, Bool, Columns, FillsThrough, Grid, IfSome, IsInside, None, Option, PieceOrder, Places, Position, Rows, Some, TakesOnce, Within, across, ap, ap₂, arith, cell_at, common_steps, cond, count_along, count_of, cut_places, div-add-mod', div_below, div_ceil, div_ceil_times, false, index_in_line, le-ltb, line_of, ltb-false, mod_below, nat_lt, nth_piece, piece_index, place_in, refl, row_fits, true, unwrap_or, ℕ}
use Rattle.std.proofs.lemmas.Bool.{lt-ltb, ltb-true}
use Rattle.tabled_grid.proofs.PiecesCut.{ComesFrom, IsCut, enough_pieces, more_lines, some_pieces}
use Rattle.tabled_grid.proofs.PiecesPut.{inside_of, piece_index_below, piece_line, piece_number, piece_of, source, source_apart}

-- a place by its line
pub place_is : (axis : Axis) (p : Position) → place_in axis (line_of axis p) (line_of (across axis) p) ≡ p
place_is Rows p = refl
place_is Columns p = refl

pub line_is : (axis : Axis) (i j : ℕ) → line_of axis (place_in axis i j) ≡ i
line_is Rows i j = refl
line_is Columns i j = refl

pub across_is : (axis : Axis) (i j : ℕ) → line_of (across axis) (place_in axis i j) ≡ j
across_is Rows i j = refl
across_is Columns i j = refl

pub some_of : (axis : Axis) (m n : ℕ) → 0 < m → 0 < n → 0 < count_of axis m n
some_of Rows m n h k = h
some_of Columns m n h k = k

pub line_inside : {A : Type 0} (axis : Axis) (g : Grid A) (p : Position) → IsInside g p → (line_of axis p < count_along axis g) × (line_of (across axis) p < count_along (across axis) g)
line_inside Rows g p inside = (inside.row, inside.col)
line_inside Columns g p inside = (inside.col, inside.row)

shape_of : {A : Type 0} (axis : Axis) (g : Grid A) (m n : ℕ) → count_along axis g ≡ m → count_along (across axis) g ≡ n → (g.rows ≡ count_of axis m n) × (g.columns ≡ count_of axis n m)
shape_of Rows g m n h k = (h, k)
shape_of Columns g m n h k = (k, h)

counts_of : {A : Type 0} (axis : Axis) (g : Grid A) (m n : ℕ) → g.rows ≡ count_of axis m n → g.columns ≡ count_of axis n m → (count_along axis g ≡ m) × (count_along (across axis) g ≡ n)
counts_of Rows g m n h k = (h, k)
counts_of Columns g m n h k = (k, h)

within_shape : (axis : Axis) (t b m n : ℕ) (places : Places) → places.size.height ≡ count_of axis m n → places.size.width ≡ count_of axis n m → t < m → b < n → Within places (place_in axis t b)
within_shape Rows t b m n places tall wide h k = record { row = omega (arith, h, tall); col = omega (arith, k, wide) }
within_shape Columns t b m n places tall wide h k = record { row = omega (arith, k, tall); col = omega (arith, h, wide) }

if_some : (P : Position → Type 0) (b : Bool) (q : Position) → (b ≡ true → P q) → IfSome (cond b (Some q) None) P
if_some P true q h = h refl
if_some P false q h = tt

some_if : (P : Position → Type 0) (b : Bool) (q : Position) → b ≡ true → IfSome (cond b (Some q) None) P → P q
some_if P true q e h = h
some_if P false q e h = cc

none_if : (b : Bool) (q : Position) → cond b (Some q) None ≡ None → b ≡ false
none_if true q e = cc
none_if false q e = refl

module _ {A : Type 0} (is_blank : A → Type 0) (axis : Axis) (order : PieceOrder) (index lines width : ℕ) (g h : Grid A) where
  -- all pieces, in their places
  pub cut_fills : IsCut is_blank axis order index lines width g h → FillsThrough is_blank (cut_places axis order index lines width) g h
  cut_fills cut = grind (arith, common_steps, shape_of, source, line_inside, if_some, place_is, ltb-true, none_if, ltb-false)

  -- and back
  pub fills_cut : FillsThrough is_blank (cut_places axis order index lines width) g h → IsCut is_blank axis order index lines width g h
  fills_cut fills = record { even = fills.reads.even; count = counts.0; wide = counts.1; cells = λ t b m n. cells t b m n }
    where
      counts : (count_along axis h ≡ lines * div_ceil width index) × (count_along (across axis) h ≡ index)
      counts = counts_of axis h (lines * div_ceil width index) index fills.reads.rows fills.reads.columns

      test : ℕ → ℕ → Bool
      test t b = nat_lt (index_in_line order index lines (div_ceil width index) t b) width

      choice : ℕ → ℕ → Option Position
      choice t b = cond (nat_lt (index_in_line order index lines (div_ceil width index) t b) width) (Some (source axis order index lines (div_ceil width index) t b)) None

      old_is : (t b : ℕ) → (cut_places axis order index lines width).old_place (place_in axis t b) ≡ cond (nat_lt (index_in_line order index lines (div_ceil width index) t b) width) (Some (source axis order index lines (div_ceil width index) t b)) None
      old_is t b = ap₂ (λ (u c : ℕ). cond (nat_lt (index_in_line order index lines (div_ceil width index) u c) width) (Some (source axis order index lines (div_ceil width index) u c)) None) (line_is axis t b) (across_is axis t b)

      cells : (t b : ℕ) → t < lines * div_ceil width index → b < index → ComesFrom is_blank g h (source axis order index lines (div_ceil width index) t b) (place_in axis t b) (index_in_line order index lines (div_ceil width index) t b) width
      cells t b m n =
          let inside : IsInside h (place_in axis t b) = inside_of axis h t b (omega (arith, m, counts.0)) (omega (arith, n, counts.1)) in
          let moved = (rw (old_is t b) at (fills.reads.moved (place_in axis t b) inside)) in
          record {
            cell = λ below. some_if (λ (q : Position). cell_at h (place_in axis t b) ≡ cell_at g q) (nat_lt (index_in_line order index lines (div_ceil width index) t b) width) (source axis order index lines (div_ceil width index) t b) (lt-ltb (index_in_line order index lines (div_ceil width index) t b) width below) moved;
            blank = λ past. fills.blanks (place_in axis t b) inside (old_is t b ∙ ap (λ (c : Bool). cond c (Some (source axis order index lines (div_ceil width index) t b)) None) (le-ltb (index_in_line order index lines (div_ceil width index) t b) width past));
          }

-- the old place of a cell of a piece, where it has one
module _ (axis : Axis) (order : PieceOrder) (index lines width : ℕ) (some : 0 < lines) (some_index : 0 < index) (narrow : index < width) where
  abbrev pieces : ℕ
  pieces = div_ceil width index

  enough : width ≤ div_ceil width index * index
  enough = enough_pieces (div_ceil width index) index width some_index refl

  any : 0 < div_ceil width index
  any = some_pieces (div_ceil width index) index width (omega (arith, narrow)) enough

  some_is : (b : Bool) (p q : Position) → cond b (Some p) None ≡ Some q → (b ≡ true) × (p ≡ q)
  some_is true p q e = (refl, ap (λ (o : Option Position). unwrap_or o p) e)
  some_is false p q e = cc

  pub lines_of : (p : Position) → Within (cut_places axis order index lines width) p → (line_of axis p < lines * div_ceil width index) × (line_of (across axis) p < index)
  lines_of p w = grind (arith, common_steps)

  found : (p q : Position) → (cut_places axis order index lines width).old_place p ≡ Some q → (index_in_line order index lines (div_ceil width index) (line_of axis p) (line_of (across axis) p) < width) × (source axis order index lines (div_ceil width index) (line_of axis p) (line_of (across axis) p) ≡ q)
  found p q is = grind (arith, common_steps, some_is, source, ltb-true)

  takes_apart : (p r q : Position) → Within (cut_places axis order index lines width) p → Within (cut_places axis order index lines width) r → (cut_places axis order index lines width).old_place p ≡ Some q → (cut_places axis order index lines width).old_place r ≡ Some q → p ≡ r
  takes_apart p r q v w e f = grind (arith, common_steps, found, any, lines_of, source_apart, place_is)

  pub pieces_take_once : {A : Type 0} (g : Grid A) → lines ≡ count_along axis g → width ≡ count_along (across axis) g → TakesOnce (cut_places axis order index lines width) g
  pieces_take_once {A} g lines_are width_is = grind (arith, common_steps, found, inside_of, piece_line, any, lines_of, takes_apart)

  -- a piece begins inside its line
  pub starts_inside : (t : ℕ) → t < lines * div_ceil width index → (nth_piece order lines (div_ceil width index) t).1 * index < width
  starts_inside t h =
      let number : ℕ = (nth_piece order lines (div_ceil width index) t).1 in
      omega (arith, row_fits number index (div_ceil width index) index (piece_number order lines (div_ceil width index) t some any h) (omega arith), (div_ceil_times width index some_index).1)

  -- there are pieces
  pub some_lines : 0 < lines * div_ceil width index
  some_lines = omega (arith, some, more_lines lines (div_ceil width index) any)

  -- a cell that comes to a new place stood in a line
  pub stood_in_line : (p q : Position) → Within (cut_places axis order index lines width) p → (cut_places axis order index lines width).old_place p ≡ Some q → (line_of axis q < lines) × (line_of (across axis) q < width)
  stood_in_line p q w e = grind (arith, common_steps, found, piece_line, any, lines_of, line_is, across_is)

  -- the one new place of a cell
  module _ (q : Position) (h : line_of axis q < lines) (l : line_of (across axis) q < width) where
    abbrev at_piece : ℕ
    at_piece = piece_index order lines (div_ceil width index) (line_of axis q) (line_of (across axis) q / index)

    abbrev at_cell : ℕ
    at_cell = line_of (across axis) q % index

    number_in : line_of (across axis) q / index < div_ceil width index
    number_in = div_below (line_of (across axis) q) index (div_ceil width index) some_index (omega (arith, l, enough))

    of_piece : nth_piece order lines (div_ceil width index) at_piece ≡ (line_of axis q, line_of (across axis) q / index)
    of_piece = piece_of order lines (div_ceil width index) (line_of axis q) (line_of (across axis) q / index) h number_in

    index_is : index_in_line order index lines (div_ceil width index) at_piece at_cell ≡ line_of (across axis) q
    index_is = ap (λ (r : ℕ × ℕ). r.1 * index + at_cell) of_piece ∙ div-add-mod' (line_of (across axis) q) index

    within : Within (cut_places axis order index lines width) (place_in axis at_piece at_cell)
    within = within_shape axis at_piece at_cell (lines * div_ceil width index) index (cut_places axis order index lines width) refl refl (piece_index_below order lines (div_ceil width index) (line_of axis q) (line_of (across axis) q / index) h number_in) (mod_below (line_of (across axis) q) index some_index)

    takes : (cut_places axis order index lines width).old_place (place_in axis at_piece at_cell) ≡ Some q
    takes = grind (arith, common_steps, line_is, across_is, lt-ltb, index_is, of_piece, place_is)

    pub goes_once : Within (cut_places axis order index lines width) (place_in axis at_piece at_cell) × ((cut_places axis order index lines width).old_place (place_in axis at_piece at_cell) ≡ Some q) × ((p : Position) → Within (cut_places axis order index lines width) p → (cut_places axis order index lines width).old_place p ≡ Some q → p ≡ place_in axis at_piece at_cell)
    goes_once = (within, takes, λ p w e. takes_apart p (place_in axis at_piece at_cell) q w within e takes)
