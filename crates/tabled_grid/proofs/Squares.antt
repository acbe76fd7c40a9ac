-- Squares transposed in place, and grids padded to one.
use Rattle.tabled_grid.proofs.Common.{◌+◌, ◌<◌, ◌∙◌, ◌≡◌, ◌≤◌, AddsColumns, AddsRows, AllByRecursion, Bool, Columns, Grid, IsEmptyWithoutRows, IsEven, IsInside, List, None, Option, Position, Rows, Some, ap, arith, cell_in, common_steps, cond, eqb, eqb-true, false, first_along, length, ne_eqb, refl, subst, sym, transposed, transposed_rows, true, with_cells_swapped, ℕ}
use Rattle.tabled_grid.proofs.Across.{same_grid}
use Rattle.tabled_grid.proofs.AddedColumns.{IsEven-adds_columns}
use Rattle.tabled_grid.proofs.AddedRows.{IsEven-adds_rows}
use Rattle.tabled_grid.proofs.Diagonal.{HalfTransposed, all_transposed, half_more, half_none}
use Rattle.tabled_grid.proofs.Resized.{IsEven-with_cells_swapped}
use Rattle.tabled_grid.proofs.SwappedCells.{Swaps, views_swapped}
use Rattle.tabled_grid.proofs.Transposed.{at-transposed, cell_in-is, length-transposed, same_rows, transposed_some, wide-transposed}

pub wide_enough : (b : Bool) (c more size : ℕ) → (b ≡ true → size ≡ c) → c + more ≡ size → cond b c (c + more) ≡ size
wide_enough true c more size none e = let same = none refl in omega (arith, same)
wide_enough false c more size none e = e

-- an even grid with as many rows as columns
pub record Square {A : Type 0} (size : ℕ) (g : Grid A) : Type 0 where
  pub even : IsEven g
  pub rows : g.rows ≡ size
  pub columns : g.columns ≡ size

module _ {A : Type 0} (old cur new : Grid A) (size i j : ℕ) where
  -- one pair more
  pub turned_more : HalfTransposed (cell_in old) (cell_in cur) size i j → (p q : Position) (next : ℕ) → next ≡ j + 1 → i < j → p.row ≡ i → p.col ≡ j → q.row ≡ j → q.col ≡ i → j < size → Square size cur → new ≡ with_cells_swapped cur p q → HalfTransposed (cell_in old) (cell_in new) size i next
  turned_more t p q next e h pr pc qr qc below s is =
      let none : Option A = None in
      let at_p : IsInside cur p = record { row = omega (arith, pr, h, below, s.rows); col = omega (arith, pc, below, s.columns) } in
      let at_q : IsInside cur q = record { row = omega (arith, qr, below, s.rows); col = omega (arith, qc, h, below, s.columns) } in
      let swapped : Swaps (cell_in cur) (cell_in new) p.row p.col q.row q.col = views_swapped Some none cur new p q s.even at_p at_q (λ same. absurd (omega (arith, same, pr, qr, h))) is in
      half_more _ (cell_in cur) (cell_in new) size i j next e h t (rw (pr, pc, qr, qc) at swapped)

-- a square stays one
pub square_swapped : {A : Type 0} (cur new : Grid A) (size : ℕ) (p q : Position) → Square size cur → new ≡ with_cells_swapped cur p q → Square size new
square_swapped {A} cur new size p q s is = grind (arith, common_steps, IsEven-with_cells_swapped)

-- a square all of whose pairs have changed places
pub turned_square : {A : Type 0} (old new : Grid A) (size i : ℕ) → 0 < size → size ≤ i → Square size old → Square size new → HalfTransposed (cell_in old) (cell_in new) size i i → new ≡ transposed old
turned_square {A} old new size i some all s t h =
    let more : eqb old.columns 0 ≡ false = ne_eqb old.columns 0 (λ e. omega (arith, e, s.columns, some)) in
    let tall : new.rows ≡ old.columns = t.rows ∙ sym s.columns in
    let broad : new.columns ≡ old.rows = t.columns ∙ sym s.rows in
    let wide : new.columns ≡ cond (eqb old.columns 0) 0 old.rows = broad ∙ sym (ap (λ b. cond b 0 old.rows) more) in
    let cells : new.cells ≡ transposed_rows old.columns old.cells =
    same_rows old.columns old.rows new.cells (transposed_rows old.columns old.cells)
    (t.even.tall ∙ tall) (length-transposed old.columns old.cells s.even.wide)
    (rw broad at t.even.wide)
    (subst (λ (n : ℕ). AllByRecursion (λ (row : List A). length row ≡ n) (transposed_rows old.columns old.cells)) s.even.tall (wide-transposed old.columns old.cells))
    (λ a b k l. sym (cell_in-is new a b) ∙ all_transposed (cell_in old) (cell_in new) size i all h a b (omega (arith, k, s.columns)) (omega (arith, l, s.rows)) ∙ cell_in-is old b a ∙ sym (at-transposed old.columns old.cells a b s.even.wide)) in
    same_grid new.rows old.columns new.columns (cond (eqb old.columns 0) 0 old.rows) new.cells (transposed_rows old.columns old.cells) tall wide cells

module _ {A : Type 0} (is_blank : A → Type 0) where
  pub square_made : (size many more : ℕ) (old grown square : Grid A) → IsEven old → IsEmptyWithoutRows grown → old.rows + many ≡ size → old.columns + more ≡ size →
      AddsRows is_blank many old grown → AddsColumns is_blank more grown square → Square size square
  square_made size many more old grown square even none tall wide rows columns =
      let high : grown.rows ≡ size = ap (λ (h : Grid A). h.rows) rows.is ∙ tall in
      let broad : grown.columns ≡ old.columns = ap (λ (h : Grid A). h.columns) rows.is in
      record {
        even = IsEven-adds_columns is_blank more grown square columns (IsEven-adds_rows is_blank many old grown rows even);
        rows = columns.rows ∙ high;
        columns = columns.columns ∙ wide_enough (eqb grown.rows 0) grown.columns more size (λ is. let no_rows = eqb-true grown.rows 0 is in omega (arith, none no_rows, no_rows, high)) (omega (arith, broad, wide));
      }

  -- a grid was padded with blanks to a square, and the cells before a place of its upper half have changed places
  pub record HalfTransposedIn (size i j : ℕ) (old new : Grid A) : Type 0 where
    pub many : ℕ
    pub grown : Grid A
    pub more : ℕ
    pub square : Grid A
    pub tall : old.rows + many ≡ size
    pub rows_added : AddsRows is_blank many old grown
    pub columns_added : AddsColumns is_blank more grown square
    pub turned : HalfTransposed (cell_in square) (cell_in new) size i j

  pub square_begins : (size many more : ℕ) (old grown square : Grid A) → old.rows + many ≡ size → AddsRows is_blank many old grown → AddsColumns is_blank more grown square → HalfTransposedIn size 0 0 old square
  square_begins size many more old grown square tall rows columns = record { many = many; grown = grown; more = more; square = square; tall = tall; rows_added = rows; columns_added = columns; turned = half_none _ size }

  -- what comes of a square comes of one that was padded
  pub square_more : (old cur new : Grid A) (size i j k l : ℕ) → HalfTransposedIn size i j old cur → ((square : Grid A) → HalfTransposed (cell_in square) (cell_in cur) size i j → HalfTransposed (cell_in square) (cell_in new) size k l) → HalfTransposedIn size k l old new
  square_more old cur new size i j k l t next = record { many = t.many; grown = t.grown; more = t.more; square = t.square; tall = t.tall; rows_added = t.rows_added; columns_added = t.columns_added; turned = next t.square t.turned }

  module _ (old cur : Grid A) (size i : ℕ) (t : HalfTransposedIn size i i old cur) where
    module _ (even : IsEven old) (s : Square size cur) (wide : old.columns ≤ size) (all : size ≤ i) where
      pub square_cut : (front new : Grid A) (r c : ℕ) → r ≡ old.rows → c ≡ old.columns → 0 < c → front ≡ first_along Rows c cur → new ≡ first_along Columns r front → new ≡ transposed old
      square_cut = transposed_some is_blank old t.grown t.square cur size t.many t.more even t.rows_added t.columns_added t.tall wide (all_transposed _ (cell_in cur) size i all t.turned) s.even s.rows s.columns
