-- Rows that vectors hold, as a grid of their own.
use Rattle.tabled_grid.proofs.Common.{[], ◌++◌, ◌+◌, ◌<◌, ◌∙◌, ◌∷◌, ◌≡◌, ◌≤◌, AddsColumns, AddsRows, All, All-from_recursion, AllByRecursion, AllZip, AreBlanks, Columns, Grid, InsertsBlank, InsertsColumn, IsEmptyWithoutRows, IsEven, IsInside, List, Position, Rows, Some, Vec, ap, arith, cell_at, common_steps, first_along, get_or, get_or-map, grid_of, length, length-append, length-map, map, map-set, map_items, ne_eqb, no_columns, refl, set, slice_get, slice_get_read, subst, sym, take, width_of, with_cell, with_item, ℕ}
use Rattle.std.specs.Prelude.{vec_len}
use Rattle.std.proofs.lemmas.List.{get_or-map as get_or-map_within}
use Rattle.tabled_grid.proofs.AddedColumns.{AddsEach, each_tall}
use Rattle.tabled_grid.proofs.AddedRows.{IsEven-adds_rows}
use Rattle.tabled_grid.proofs.FirstLines.{IsEven-first, rowless-first}
use Rattle.tabled_grid.proofs.Blanks.{blank_column}
use Rattle.tabled_grid.proofs.Grids.{IsEven-with_cell}
use Rattle.tabled_grid.proofs.Resized.{IsEven-with_column, rowless-with_column}

-- rows whose grid is this one
pub record HaveGrid {A : Type 0} (rows : List (List A)) (g : Grid A) : Type 0 where
  pub well : IsEven (grid_of rows)
  pub is : grid_of rows ≡ g

module _ {A : Type 0} where
  width_is : (rows columns : ℕ) (cells : List (List A)) → length cells ≡ rows → AllByRecursion (λ (row : List A). length row ≡ columns) cells → (rows ≡ 0 → columns ≡ 0) → width_of cells ≡ columns
  width_is rows columns [] tall wide none = sym (none (sym tall))
  width_is rows columns (row ∷ cells) tall wide none = wide.0

  -- the rows of an even grid that has no columns without rows
  pub have_grid : (g : Grid A) (rows : List (List A)) → IsEven g → IsEmptyWithoutRows g → rows ≡ g.cells → HaveGrid rows g
  have_grid g rows even none e =
      let is : grid_of rows ≡ g = ap grid_of e ∙ (rw (even.tall, width_is g.rows g.columns g.cells even.tall even.wide none) refl) in
      record { well = subst IsEven (sym is) even; is = is }

  -- what holds of the number of columns holds of the length of each row
  pub each_long : (P : ℕ → Type 0) (columns : ℕ) (rows : List (Vec A)) → AllByRecursion (λ (row : List A). length row ≡ columns) (map_items rows) → P columns → All (λ (row : Vec A). P (vec_len row)) rows
  each_long P columns rows wide h i d within =
      let long : length (get_or (map_items rows) i d.items) ≡ columns = All-from_recursion _ _ wide i d.items (omega (arith, length-map rows (λ (v : Vec A). v.items))) in
      subst P (sym long ∙ ap length (get_or-map (λ (v : Vec A). v.items) rows i d) ∙ sym (get_or rows i d).ok.0) h

  -- a blank in each row is a column of blanks
  pub column_inserted : (is_blank : A → Type 0) (j : ℕ) (old new : List (List A)) → IsEven (grid_of old) → j ≤ width_of old → AllZip (InsertsBlank is_blank j) old new → InsertsColumn is_blank (grid_of old) (grid_of new) j
  column_inserted is_blank j old new even h put =
      let c = blank_column is_blank j old new put in
      record {
        column = c.column;
        blanks = c.blanks;
        is = (have_grid _ new (IsEven-with_column (grid_of old) j c.column h c.blanks.many even) (rowless-with_column (grid_of old) j c.column (no_columns old)) c.is).is;
      }

  -- the first rows, and the first columns
  pub rows_cut : (n : ℕ) (old new : List (List A)) → n ≤ length old → IsEven (grid_of old) → new ≡ take n old → HaveGrid new (first_along Rows n (grid_of old))
  rows_cut n old new h even e = have_grid _ new (IsEven-first Rows n (grid_of old) h even) (rowless-first Rows n (grid_of old) h (no_columns old)) e

  pub columns_cut : (n : ℕ) (old new : List (List A)) → n ≤ width_of old → IsEven (grid_of old) → new ≡ map (λ (row : List A). take n row) old → HaveGrid new (first_along Columns n (grid_of old))
  columns_cut n old new h even e = have_grid _ new (IsEven-first Columns n (grid_of old) h even) (rowless-first Columns n (grid_of old) h (no_columns old)) e

  module _ (is_blank : A → Type 0) (many : ℕ) where
    -- n blanks after each row
    pub columns_added : (old new : List (List A)) → AddsEach is_blank many old new → AddsColumns is_blank many (grid_of old) (grid_of new)
    columns_added [] [] a = record { rows = refl; columns = refl; each = tt }
    columns_added [] (wide ∷ new) a = absurd a
    columns_added (row ∷ old) [] a = absurd a
    columns_added (row ∷ old) (wide ∷ new) a = grind (arith, common_steps, ne_eqb, each_tall, length-append)

    -- n rows of blanks below the last one
    module _ (old added new : List (List A)) (even : IsEven (grid_of old)) (tall : length added ≡ many) (blanks : AllByRecursion (AreBlanks is_blank (width_of old)) added) (is : new ≡ old ++ added) where
      adds : AddsRows is_blank many (grid_of old) (record { rows = length old + many; columns = width_of old; cells = old ++ added })
      adds = record { added = added; blanks = blanks; many_are = tall; is = refl }

      have_added : HaveGrid new (record { rows = length old + many; columns = width_of old; cells = old ++ added })
      have_added = have_grid _ new (IsEven-adds_rows is_blank many (grid_of old) _ adds even) (λ e. no_columns old (omega (arith, e))) is

      pub rows_added : AddsRows is_blank many (grid_of old) (grid_of new)
      rows_added = rw have_added.is adds

      pub rows_added_even : IsEven (grid_of new)
      rows_added_even = have_added.well

-- the row at p
module _ {A : Type 0} (rows : List (Vec A)) (p : Position) (row : Vec A) (even : IsEven (grid_of (map_items rows))) (inside : IsInside (grid_of (map_items rows)) p) (is : row ≡ get_or rows p.row row) where
  row_items : get_or (map_items rows) p.row [] ≡ row.items
  row_items = get_or-map_within (λ (v : Vec A). v.items) rows p.row row [] (omega (arith, length-map rows (λ (v : Vec A). v.items), inside.row)) ∙ ap (λ (v : Vec A). v.items) (sym is)

  -- the place is inside the row
  pub row_holds : p.col < vec_len row
  row_holds = grind (arith, common_steps, All-from_recursion, row_items)

  pub row_cell : (x : A) → x ≡ get_or row.items p.col x → cell_at (grid_of (map_items rows)) p ≡ Some x
  row_cell x e = ap (λ ys. slice_get ys p.col) row_items ∙ slice_get_read row.items (vec_len row) p.col x row.ok.0 row_holds e

  pub row_written : (x : A) → HaveGrid (map_items (set rows p.row (with_item row p.col x))) (with_cell (grid_of (map_items rows)) p x)
  row_written x =
      have_grid _ _ (IsEven-with_cell _ p x even) (no_columns (map_items rows))
      (map-set (λ (v : Vec A). v.items) rows p.row (with_item row p.col x) ∙ ap (λ ys. set (map_items rows) p.row (set ys p.col x)) (sym row_items))
