-- Rows as columns, and grids by their cells.
use Rattle.tabled_grid.proofs.Common.{[], ◌+◌, ◌<◌, ◌∙◌, ◌∷◌, ◌≡◌, ◌≤◌, AddsColumns, AddsRows, AllByRecursion, Columns, Grid, IsEven, List, None, Rows, Some, all-map, all-take, ap, ap₂, arith, cell_in, common_steps, first_along, get_or, get_or-map, get_or-take, get_or_append_left, length, length-map, length-replicate, length-take-le, length-zip, map, ne_eqb, nil_from_length, refl, replicate, slice_get, subst, suc, sym, take, transposed, transposed_rows, zero, zip, ℕ}
use Rattle.std.proofs.lemmas.List.{get_or-map as get_or-map_within}
use Rattle.tabled_grid.proofs.AddedColumns.{IsEven-adds_columns, columns_front}
use Rattle.tabled_grid.proofs.AddedRows.{IsEven-adds_rows}

-- what is read of a list by place
pub slice_get-some : {A : Type 0} (xs : List A) (b : ℕ) → get_or (map Some xs) b None ≡ slice_get xs b
slice_get-some [] b = refl
slice_get-some (x ∷ xs) zero = refl
slice_get-some (x ∷ xs) (suc b) = slice_get-some xs b

pub slice_get-take : {A : Type 0} (n : ℕ) (xs : List A) (b : ℕ) → b < n → slice_get (take n xs) b ≡ slice_get xs b
slice_get-take zero xs b h = absurd (omega arith)
slice_get-take (suc n) [] b h = refl
slice_get-take (suc n) (x ∷ xs) zero h = refl
slice_get-take (suc n) (x ∷ xs) (suc b) h = slice_get-take n xs b (omega arith)

-- lists that read alike
same_list : {A : Type 0} (n : ℕ) (xs ys : List A) → length xs ≡ n → length ys ≡ n → ((b : ℕ) → b < n → slice_get xs b ≡ slice_get ys b) → xs ≡ ys
same_list n [] [] h k e = refl
same_list n [] (y ∷ ys) h k e = absurd (omega arith)
same_list n (x ∷ xs) [] h k e = absurd (omega arith)
same_list zero (x ∷ xs) (y ∷ ys) h k e = absurd (omega arith)
same_list {A} (suc n) (x ∷ xs) (y ∷ ys) h k e =
    let first : x ≡ y = same_first (e 0 (omega arith)) in
    ap₂ (λ z zs. z ∷ zs) first (same_list n xs ys (omega arith) (omega arith) (λ b l. e (suc b) (omega arith)))
  where
    same_first : Some x ≡ Some y → x ≡ y
    same_first is = cc

abbrev no_cells : (A : Type 0) → List A
no_cells A = []

none_wide : (A : Type 0) (c : ℕ) → AllByRecursion (λ (row : List A). length row ≡ 0) (replicate c (no_cells A))
none_wide A zero = tt
none_wide A (suc c) = (refl, none_wide A c)

none_at : (A : Type 0) (c a : ℕ) → get_or (replicate c (no_cells A)) a (no_cells A) ≡ no_cells A
none_at A zero a = refl
none_at A (suc c) zero = refl
none_at A (suc c) (suc a) = none_at A c a

module _ {A : Type 0} where
  pub cell_in-is : (g : Grid A) (a b : ℕ) → cell_in g a b ≡ slice_get (get_or g.cells a []) b
  cell_in-is g a b = grind (arith, common_steps, get_or-map, slice_get-some)

  -- the same of rows that are as long
  pub same_rows : (n r : ℕ) (xs ys : List (List A)) → length xs ≡ n → length ys ≡ n → AllByRecursion (λ (row : List A). length row ≡ r) xs → AllByRecursion (λ (row : List A). length row ≡ r) ys →
      ((a b : ℕ) → a < n → b < r → slice_get (get_or xs a []) b ≡ slice_get (get_or ys a []) b) → xs ≡ ys
  same_rows n r [] [] h k v w e = refl
  same_rows n r [] (y ∷ ys) h k v w e = absurd (omega arith)
  same_rows n r (x ∷ xs) [] h k v w e = absurd (omega arith)
  same_rows zero r (x ∷ xs) (y ∷ ys) h k v w e = absurd (omega arith)
  same_rows (suc n) r (x ∷ xs) (y ∷ ys) h k v w e =
      ap₂ (λ z zs. z ∷ zs) (same_list r x y v.0 w.0 (λ b l. e 0 b (omega arith) l))
      (same_rows n r xs ys (omega arith) (omega arith) v.1 w.1 (λ a b l m. e (suc a) b (omega arith) m))

  at_front : (row : List A) (rows : List (List A)) (a : ℕ) → length row ≡ length rows → slice_get (get_or (map (λ (p : A × List A). p.0 ∷ p.1) (zip row rows)) a []) 0 ≡ slice_get row a
  at_front [] [] a e = refl
  at_front [] (r ∷ rows) a e = absurd (omega arith)
  at_front (x ∷ row) [] a e = absurd (omega arith)
  at_front (x ∷ row) (r ∷ rows) zero e = refl
  at_front (x ∷ row) (r ∷ rows) (suc a) e = at_front row rows a (omega arith)

  behind_front : (row : List A) (rows : List (List A)) (a b : ℕ) → length row ≡ length rows → slice_get (get_or (map (λ (p : A × List A). p.0 ∷ p.1) (zip row rows)) a []) (suc b) ≡ slice_get (get_or rows a []) b
  behind_front [] [] a b e = refl
  behind_front [] (r ∷ rows) a b e = absurd (omega arith)
  behind_front (x ∷ row) [] a b e = absurd (omega arith)
  behind_front (x ∷ row) (r ∷ rows) zero b e = refl
  behind_front (x ∷ row) (r ∷ rows) (suc a) b e = behind_front row rows a b (omega arith)

  pub length-transposed : (c : ℕ) (rows : List (List A)) → AllByRecursion (λ (row : List A). length row ≡ c) rows → length (transposed_rows c rows) ≡ c
  length-transposed c [] wide = length-replicate c (no_cells A)
  length-transposed c (row ∷ rows) wide = omega (arith, length-map (zip row (transposed_rows c rows)) (λ (p : A × List A). p.0 ∷ p.1), length-zip row (transposed_rows c rows), wide.0, length-transposed c rows wide.1)

  front_wide : (n : ℕ) (row : List A) (rows : List (List A)) → AllByRecursion (λ (r : List A). length r ≡ n) rows → AllByRecursion (λ (r : List A). length r ≡ suc n) (map (λ (p : A × List A). p.0 ∷ p.1) (zip row rows))
  front_wide n [] rows wide = tt
  front_wide n (x ∷ row) [] wide = tt
  front_wide n (x ∷ row) (r ∷ rows) wide = (ap suc wide.0, front_wide n row rows wide.1)

  pub wide-transposed : (c : ℕ) (rows : List (List A)) → AllByRecursion (λ (row : List A). length row ≡ length rows) (transposed_rows c rows)
  wide-transposed c [] = none_wide A c
  wide-transposed c (row ∷ rows) = front_wide (length rows) row (transposed_rows c rows) (wide-transposed c rows)

  -- a row of the one is a column of the other
  pub at-transposed : (c : ℕ) (rows : List (List A)) (a b : ℕ) → AllByRecursion (λ (row : List A). length row ≡ c) rows → slice_get (get_or (transposed_rows c rows) a []) b ≡ slice_get (get_or rows b []) a
  at-transposed c [] a b wide = ap (λ (row : List A). slice_get row b) (none_at A c a)
  at-transposed c (row ∷ rows) a zero wide = at_front row (transposed_rows c rows) a (wide.0 ∙ sym (length-transposed c rows wide.1))
  at-transposed c (row ∷ rows) a (suc b) wide = behind_front row (transposed_rows c rows) a b (wide.0 ∙ sym (length-transposed c rows wide.1)) ∙ at-transposed c rows a b wide.1

  fronts_wide : (n m : ℕ) (rows : List (List A)) → n ≤ m → AllByRecursion (λ (row : List A). length row ≡ m) rows → AllByRecursion (λ (row : List A). length row ≡ n) (map (λ (row : List A). take n row) rows)
  fronts_wide n m rows h wide = all-map (λ (row : List A). length row ≡ m) (λ (row : List A). length row ≡ n) (λ (row : List A). take n row) (λ row w. length-take-le n row (omega arith)) rows wide

  -- a grid, padded to a square, with its cells swapped across the diagonal, and cut again
  module _ (is_blank : A → Type 0) (g grown padded square : Grid A) (size many more : ℕ) (even : IsEven g) (rows : AddsRows is_blank many g grown) (columns : AddsColumns is_blank more grown padded)
      (tall : g.rows + many ≡ size) (wide : g.columns ≤ size) (turned : (a b : ℕ) → a < size → b < size → cell_in square a b ≡ cell_in padded b a) (square_even : IsEven square) (square_rows : square.rows ≡ size) (square_columns : square.columns ≡ size) where
    grown_even : IsEven grown
    grown_even = IsEven-adds_rows is_blank many g grown rows even

    padded_even : IsEven padded
    padded_even = IsEven-adds_columns is_blank more grown padded columns grown_even

    as_before : (a b : ℕ) → a < g.rows → b < g.columns → cell_in padded a b ≡ slice_get (get_or g.cells a []) b
    as_before a b h k =
        let n : ℕ = grown.columns in
        let same : n ≡ g.columns = ap (λ (h : Grid A). h.columns) rows.is in
        let rows_same : grown.rows ≡ g.rows + many = ap (λ (h : Grid A). h.rows) rows.is in
        cell_in-is padded a b
        ∙ sym (slice_get-take n (get_or padded.cells a []) b (omega (arith, same, k)))
        ∙ sym (ap (λ (row : List A). slice_get row b) (get_or-map_within (λ (row : List A). take n row) padded.cells a [] [] (omega (arith, padded_even.tall, columns.rows, rows_same, h))))
        ∙ ap (λ (all : List (List A)). slice_get (get_or all a []) b) (columns_front is_blank more grown padded grown_even columns ∙ ap (λ (h : Grid A). h.cells) rows.is)
        ∙ ap (λ (row : List A). slice_get row b) (get_or_append_left g.cells rows.added [] a (omega (arith, even.tall, h)))

    cells_turned : map (λ (row : List A). take g.rows row) (take g.columns square.cells) ≡ transposed_rows g.columns g.cells
    cells_turned =
        let front : List (List A) = take g.columns square.cells in
        let long : length front ≡ g.columns = length-take-le g.columns square.cells (omega (arith, square_even.tall, square_rows, wide)) in
        same_rows g.columns g.rows (map (λ (row : List A). take g.rows row) front) (transposed_rows g.columns g.cells)
        (length-map front (λ (row : List A). take g.rows row) ∙ long) (length-transposed g.columns g.cells even.wide)
        (fronts_wide g.rows square.columns front (omega (arith, square_columns, tall)) (all-take (λ (row : List A). length row ≡ square.columns) g.columns square.cells square_even.wide))
        (subst (λ (n : ℕ). AllByRecursion (λ (row : List A). length row ≡ n) (transposed_rows g.columns g.cells)) even.tall (wide-transposed g.columns g.cells))
        (λ a b h k.
        ap (λ (row : List A). slice_get row b) (get_or-map_within (λ (row : List A). take g.rows row) front a [] [] (omega (arith, long, h)))
        ∙ slice_get-take g.rows (get_or front a []) b k
        ∙ ap (λ (row : List A). slice_get row b) (get_or-take g.columns square.cells a [] h)
        ∙ sym (cell_in-is square a b)
        ∙ turned a b (omega (arith, h, wide)) (omega (arith, k, tall))
        ∙ as_before b a k h
        ∙ sym (at-transposed g.columns g.cells a b even.wide))

    pub transposed_some : (front new : Grid A) (r c : ℕ) → r ≡ g.rows → c ≡ g.columns → 0 < c → front ≡ first_along Rows c square → new ≡ first_along Columns r front → new ≡ transposed g
    transposed_some front new r c er ec some is cut = grind (arith, common_steps, ne_eqb, cells_turned)

-- without columns there are no rows once they are columns
pub transposed_none : {A : Type 0} (g new : Grid A) → IsEven g → g.columns ≡ 0 → new ≡ first_along Rows 0 g → new ≡ transposed g
transposed_none g new even empty is =
    let cells : transposed_rows g.columns g.cells ≡ [] = nil_from_length (transposed_rows g.columns g.cells) (omega (arith, length-transposed g.columns g.cells even.wide, empty)) in
    is ∙ (rw (cells, empty) refl)
