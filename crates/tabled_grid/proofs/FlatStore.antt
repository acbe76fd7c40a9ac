-- What one list of cells shows of its grid, cell by cell.
use Rattle.tabled_grid.proofs.Common.{[], ◌*◌, ◌++◌, ◌+◌, ◌-◌, ◌<◌, ◌∙◌, ◌∷◌, ◌≡◌, ◌≢◌, ◌≤◌, AddsBlanks, AddsColumns, AddsRows, AreBlanks, Columns, InsertsBlank, InsertsBlanks, InsertsColumn, InsertsRow, IsEven, IsFull, IsInside, List, Position, PutsBlanks, Rows, Some, all-zip-map, ap, append-nil, ap₂, arith, cases_lt, cell_at, chunks, common_steps, drop, drop_all, drop_at, eqb, false, first_along, flat_grid, is_even, joined, length, length-chunks, map, max, min, mul-add-lt, ne_eqb, refl, rules, set, slice_get, slice_get-get_or, suc, swap, sym, take, take_all, take_at, with_cell, with_cells_swapped, with_column, with_columns_swapped, with_row, with_rows_swapped, with_runs_swapped, without_column, without_row, ℕ}
use Rattle.tabled_grid.proofs.Blanks.{blank_column}
use Rattle.tabled_grid.proofs.FirstLines.{IsEven-first}
use Rattle.tabled_grid.proofs.Grids.{IsEven-with_cell}
use Rattle.tabled_grid.proofs.Resized.{IsEven-with_cells_swapped, IsEven-with_column, IsEven-with_columns_swapped, IsEven-with_row, IsEven-with_rows_swapped, IsEven-without_column, IsEven-without_row}
use Rattle.tabled_grid.proofs.AddedColumns.{IsEven-adds_columns}
use Rattle.tabled_grid.proofs.AddedRows.{IsEven-adds_rows}
use Rattle.tabled_grid.proofs.Flat.{full_of, joined-chunks, view_of}
use Rattle.tabled_grid.proofs.FlatCells.{cell-joined, written-joined, swapped-joined}
use Rattle.tabled_grid.proofs.FlatColumns.{shorter-last}
use Rattle.tabled_grid.proofs.Through.{blank_chunks}
use Rattle.tabled_grid.proofs.FlatRows.{joined-append, joined-insert, joined-remove, joined-swap, row-joined, swap-turned, take-joined}

module _ {A : Type 0} (is_blank : A → Type 0) where
  -- one blank, and blanks after the last cell
  one_blank : (j : ℕ) (old new : List A) → InsertsBlanks is_blank old new j 1 → InsertsBlank is_blank j old new
  one_blank j old new put = only put.cells put.blanks put.is
    where
      only : (cells : List A) → AreBlanks is_blank 1 cells → new ≡ take j old ++ (cells ++ drop j old) → InsertsBlank is_blank j old new
      only [] b e = absurd (omega (arith, b.many))
      only (x ∷ []) b e = record { cell = x; blank = b.blank.0; is = e }
      only (x ∷ (y ∷ xs)) b e = absurd (omega (arith, b.many))

  last_blanks : (c many : ℕ) (old new : List A) → length old ≡ c → InsertsBlanks is_blank old new c many → AddsBlanks is_blank old new many
  last_blanks c many old new long put = grind (arith, common_steps, take_all, drop_all, append-nil)

module _ {A : Type 0} (r c : ℕ) (xs : List A) (h : IsFull r c xs) where
  pub cells_are : xs ≡ joined (flat_grid r c xs).cells
  cells_are = sym (joined-chunks r c xs h.full)

  pub cell_within : (p : Position) (n : ℕ) → IsInside (flat_grid r c xs) p → n ≡ p.row * c + p.col → n < length xs
  cell_within p n inside e = omega (arith, e, h.full, mul-add-lt p.row c p.col r inside.row inside.col)

  pub cell_read : (p : Position) (n : ℕ) (x : A) → IsInside (flat_grid r c xs) p → n ≡ p.row * c + p.col → slice_get xs n ≡ Some x → cell_at (flat_grid r c xs) p ≡ Some x
  cell_read p n x inside e read = sym (cell-joined (flat_grid r c xs) (is_even r c xs h) p n inside e) ∙ ap (λ ys. slice_get ys n) (sym cells_are) ∙ read

  pub cell_written : (p : Position) (n : ℕ) (x : A) → IsInside (flat_grid r c xs) p → n ≡ p.row * c + p.col → flat_grid r c (set xs n x) ≡ with_cell (flat_grid r c xs) p x
  cell_written p n x inside e =
      view_of (with_cell (flat_grid r c xs) p x) r c (set xs n x) (IsEven-with_cell _ p x (is_even r c xs h)) refl refl
      (ap (λ ys. set ys n x) cells_are ∙ written-joined (flat_grid r c xs) (is_even r c xs h) p n x inside e)

  pub cells_swapped : (p q : Position) (m n : ℕ) → IsInside (flat_grid r c xs) p → IsInside (flat_grid r c xs) q → m ≡ p.row * c + p.col → n ≡ q.row * c + q.col → flat_grid r c (swap xs m n) ≡ with_cells_swapped (flat_grid r c xs) p q
  cells_swapped p q m n in_p in_q e f =
      view_of (with_cells_swapped (flat_grid r c xs) p q) r c (swap xs m n) (IsEven-with_cells_swapped _ p q (is_even r c xs h)) refl refl
      (ap (λ ys. swap ys m n) cells_are ∙ swapped-joined (flat_grid r c xs) p q m n (is_even r c xs h) in_p in_q e f)

  row_count : length (flat_grid r c xs).cells ≡ r
  row_count = (is_even r c xs h).tall

  pub row_read : (i m n : ℕ) → i < r → m ≡ c → n ≡ i * c → slice_get (flat_grid r c xs).cells i ≡ Some (take m (drop n xs))
  row_read i m n within e f =
      let below : i < length (flat_grid r c xs).cells = omega (arith, row_count, within) in
      slice_get-get_or (flat_grid r c xs).cells i [] below
      ∙ ap Some (sym (row-joined c (flat_grid r c xs).cells i (is_even r c xs h).wide below) ∙ ap (λ ys. take c (drop (i * c) ys)) (sym cells_are))
      ∙ rw (e, f) refl

  -- rows
  module _ (is_blank : A → Type 0) (i rows : ℕ) (new : List A) (within : i ≤ r) (more : rows ≡ r + 1) (put : InsertsBlanks is_blank xs new (i * c) c) where
    row_inserted_cells : new ≡ joined (with_row (flat_grid r c xs) i put.cells).cells
    row_inserted_cells = put.is ∙ ap (λ ys. take (i * c) ys ++ (put.cells ++ drop (i * c) ys)) cells_are ∙ sym (joined-insert c (flat_grid r c xs).cells i put.cells (is_even r c xs h).wide)

    pub row_inserted : InsertsRow is_blank (flat_grid r c xs) (flat_grid rows c new) i
    row_inserted = record {
      row = put.cells;
      blanks = put.blanks;
      is = view_of (with_row (flat_grid r c xs) i put.cells) rows c new (IsEven-with_row _ (is_even r c xs h) i put.cells within put.blanks.many) more refl row_inserted_cells;
    }

    pub row_inserted_full : IsFull rows c new
    row_inserted_full = full_of (with_row (flat_grid r c xs) i put.cells) rows c new (IsEven-with_row _ (is_even r c xs h) i put.cells within put.blanks.many) more refl row_inserted_cells (λ e. absurd (omega (arith, e)))

  pub row_removed : (i : ℕ) (new : List A) → i < r → r - 1 ≢ 0 → new ≡ take (i * c) xs ++ drop (i * c + c) xs → flat_grid (r - 1) c new ≡ without_row (flat_grid r c xs) i
  row_removed i new within some is =
      let several : eqb r 1 ≡ false = ne_eqb r 1 (λ e. some (omega (arith, e))) in
      view_of (without_row (flat_grid r c xs) i) (r - 1) c new (IsEven-without_row _ i within (is_even r c xs h)) refl (rw several refl)
      (is ∙ ap (λ ys. take (i * c) ys ++ drop (i * c + c) ys) cells_are ∙ sym (joined-remove c (flat_grid r c xs).cells i (i * c + c) (is_even r c xs h).wide refl))

  rows_in_order : (i k : ℕ) (new : List A) → i < k → k < r → new ≡ with_runs_swapped xs (i * c) (k * c) c → flat_grid r c new ≡ with_rows_swapped (flat_grid r c xs) i k
  rows_in_order i k new before within is =
      view_of (with_rows_swapped (flat_grid r c xs) i k) r c new (IsEven-with_rows_swapped _ (is_even r c xs h) i k) refl refl
      (is ∙ ap (λ ys. with_runs_swapped ys (i * c) (k * c) c) cells_are ∙ joined-swap c (flat_grid r c xs).cells i k (is_even r c xs h).wide before (omega (arith, row_count, within)))

  pub rows_swapped : (i k first second : ℕ) (new : List A) → i < r → k < r → i ≢ k → first ≡ min i k → second ≡ max i k → new ≡ with_runs_swapped xs (first * c) (second * c) c → flat_grid r c new ≡ with_rows_swapped (flat_grid r c xs) i k
  rows_swapped i k first second new i_in k_in apart e f is = search (rules, cases_lt, rows_in_order, swap-turned)

  pub rows_cut : (n : ℕ) (new : List A) → n ≤ r → n ≢ 0 → new ≡ take (n * c) xs → flat_grid n c new ≡ first_along Rows n (flat_grid r c xs)
  rows_cut n new within some is =
      let several : eqb n 0 ≡ false = ne_eqb n 0 some in
      view_of (first_along Rows n (flat_grid r c xs)) n c new (IsEven-first Rows n _ within (is_even r c xs h)) refl (rw several refl)
      (is ∙ ap (take (n * c)) cells_are ∙ take-joined c n (flat_grid r c xs).cells (is_even r c xs h).wide)

  -- n rows of blanks after the cells
  module _ (is_blank : A → Type 0) (many rows count : ℕ) (new : List A) (tall : rows ≡ r + many) (e : count ≡ c * many) (put : AddsBlanks is_blank xs new count) where
    full_blanks : length put.cells ≡ many * c
    full_blanks = put.blanks.many ∙ omega (arith, e)

    rows_adds : AddsRows is_blank many (flat_grid r c xs) (record { rows = rows; columns = c; cells = (flat_grid r c xs).cells ++ chunks many c put.cells })
    rows_adds = record {
      added = chunks many c put.cells;
      blanks = blank_chunks is_blank many c put.cells full_blanks put.blanks.blank;
      many_are = length-chunks many c put.cells;
      is = rw tall refl;
    }

    rows_even : IsEven (record { rows = rows; columns = c; cells = (flat_grid r c xs).cells ++ chunks many c put.cells })
    rows_even = IsEven-adds_rows is_blank many (flat_grid r c xs) _ rows_adds (is_even r c xs h)

    rows_put_cells : new ≡ joined ((flat_grid r c xs).cells ++ chunks many c put.cells)
    rows_put_cells = put.is ∙ ap₂ (λ us vs. us ++ vs) cells_are (sym (joined-chunks many c put.cells full_blanks)) ∙ sym (joined-append (flat_grid r c xs).cells (chunks many c put.cells))

    pub rows_put : AddsRows is_blank many (flat_grid r c xs) (flat_grid rows c new)
    rows_put = rw (view_of (record { rows = rows; columns = c; cells = (flat_grid r c xs).cells ++ chunks many c put.cells }) rows c new rows_even refl refl rows_put_cells) rows_adds

    pub rows_put_full : IsFull rows c new
    rows_put_full = full_of (record { rows = rows; columns = c; cells = (flat_grid r c xs).cells ++ chunks many c put.cells }) rows c new rows_even refl refl rows_put_cells (λ (z : rows ≡ 0). h.rowless (omega (arith, z, tall)))

  -- columns
  pub columns_swapped : (j k : ℕ) (new : List A) → new ≡ joined (map (λ (row : List A). swap row j k) (chunks r c xs)) → flat_grid r c new ≡ with_columns_swapped (flat_grid r c xs) j k
  columns_swapped j k new is = view_of (with_columns_swapped (flat_grid r c xs) j k) r c new (IsEven-with_columns_swapped _ (is_even r c xs h) j k) refl refl is

  pub column_removed : (j : ℕ) (new : List A) → j < c → new ≡ joined (map (λ (row : List A). take j row ++ drop (j + 1) row) (chunks r c xs)) → flat_grid r (c - 1) new ≡ without_column (flat_grid r c xs) j
  column_removed j new within is =
      let next : j + 1 ≡ suc j = omega arith in
      view_of (without_column (flat_grid r c xs) j) r (c - 1) new (IsEven-without_column _ (is_even r c xs h) j within) refl refl
      (is ∙ ap (λ (n : ℕ). joined (map (λ (row : List A). take j row ++ drop n row) (chunks r c xs))) next)

  pub columns_cut : (n : ℕ) (new : List A) → n ≤ c → new ≡ joined (map (λ (row : List A). take n row ++ drop (n + (c - n)) row) (chunks r c xs)) → flat_grid r n new ≡ first_along Columns n (flat_grid r c xs)
  columns_cut n new within is =
      view_of (first_along Columns n (flat_grid r c xs)) r n new (IsEven-first Columns n _ within (is_even r c xs h)) refl refl
      (is ∙ ap joined (shorter-last c n (c - n) (chunks r c xs) (is_even r c xs h).wide (omega (arith, within))))

  module _ (is_blank : A → Type 0) (k : ℕ) (room : List A) (put : AddsBlanks is_blank xs room k) where
    -- n blanks lie after the cells
    pub blanks_put : AreBlanks is_blank k (drop (r * c) room)
    blanks_put = rw (put.is, drop_at xs put.cells (r * c) h.full) put.blanks

    before : take (r * c) room ≡ xs
    before = ap (take (r * c)) put.is ∙ take_at xs put.cells (r * c) h.full

    pub column_inserted : (j : ℕ) (new : List A) → j ≤ c → r ≢ 0 → PutsBlanks is_blank (chunks r c (take (r * c) room)) new j 1 → InsertsColumn is_blank (flat_grid r c xs) (flat_grid r (c + 1) new) j
    column_inserted j new within some spread =
        let even : IsEven (flat_grid r c xs) = is_even r c xs h in
        let b = blank_column is_blank j (chunks r c xs) spread.wide (all-zip-map _ _ _ (λ row w _ i. one_blank is_blank j row w i) (chunks r c xs) spread.wide even.wide (rw before at spread.each)) in
        let long : length b.column ≡ r = b.blanks.many ∙ row_count in
        let several : eqb r 0 ≡ false = ne_eqb r 0 some in
        record {
          column = b.column;
          blanks = record { blank = b.blanks.blank; many = long };
          is = view_of (with_column (flat_grid r c xs) j b.column) r (c + 1) new (IsEven-with_column _ j b.column within long even) refl (rw several refl) (spread.is ∙ ap joined b.is);
        }

    module _ (many n : ℕ) (new : List A) (some : r ≢ 0) (e : n ≡ c + many) (puts : PutsBlanks is_blank (chunks r c (take (r * c) room)) new c many) where
      adds : AddsColumns is_blank many (flat_grid r c xs) (record { rows = r; columns = n; cells = puts.wide })
      adds =
          let several : eqb r 0 ≡ false = ne_eqb r 0 some in
          record { rows = refl; columns = rw several e; each = all-zip-map _ _ _ (λ row w long i. last_blanks is_blank c many row w long i) (chunks r c xs) puts.wide (is_even r c xs h).wide (rw before at puts.each) }

      even : IsEven (record { rows = r; columns = n; cells = puts.wide })
      even = IsEven-adds_columns is_blank many (flat_grid r c xs) _ adds (is_even r c xs h)

      pub columns_put : AddsColumns is_blank many (flat_grid r c xs) (flat_grid r n new)
      columns_put = rw (view_of (record { rows = r; columns = n; cells = puts.wide }) r n new even refl refl puts.is) adds

      pub full_put : IsFull r n new
      full_put = full_of (record { rows = r; columns = n; cells = puts.wide }) r n new even refl refl puts.is (λ (z : r ≡ 0). absurd (some z))
