-- Lines of blanks after the last line.
use Rattle.tabled_grid.proofs.Common.{[], ◌++◌, ◌+◌, ◌-◌, ◌<◌, ◌∙◌, ◌∷◌, ◌≡◌, ◌≤◌, AddsBlanks, AddsLines, All-from_recursion, AllByRecursion, AllZip, Axis, Bool, Columns, Grid, IsEmptyWithoutRows, IsEven, List, Rows, Some, across, ap, arith, cell_at, common_steps, cond, count_along, first_along, get_or, get_or-append_right, get_or_append_left, length, ne_eqb, place, place_in, refl, slice_get, suc, zero, ℕ}
use Rattle.tabled_grid.proofs.AddedColumns.{IsEven-adds_columns, columns_taken_back}
use Rattle.tabled_grid.proofs.AddedRows.{IsEven-adds_rows, rows_taken_back}

-- a list read after another one
pub front_read : {A : Type 0} (xs ys : List A) (j : ℕ) → j < length xs → slice_get (xs ++ ys) j ≡ slice_get xs j
front_read [] ys j h = absurd (omega (arith, h))
front_read (x ∷ xs) ys zero h = refl
front_read (x ∷ xs) ys (suc j) h = front_read xs ys j (omega (arith, h))

pub back_read : {A : Type 0} (xs ys : List A) (j : ℕ) → length xs ≤ j → slice_get (xs ++ ys) j ≡ slice_get ys (j - length xs)
back_read [] ys j h = let same : j ≡ j - 0 = omega arith in ap (slice_get ys) same
back_read (x ∷ xs) ys zero h = absurd (omega (arith, h))
back_read (x ∷ xs) ys (suc j) h = let same : j - length xs ≡ suc j - suc (length xs) = omega arith in back_read xs ys j (omega (arith, h)) ∙ ap (slice_get ys) same

module _ {A : Type 0} (is_blank : A → Type 0) where
  pub blank_at : (xs : List A) (j : ℕ) → AllByRecursion is_blank xs → j < length xs → (c : A) × is_blank c × (slice_get xs j ≡ Some c)
  blank_at [] j all h = absurd (omega (arith, h))
  blank_at (x ∷ xs) zero all h = (x, all.0, refl)
  blank_at (x ∷ xs) (suc j) all h = blank_at xs j all.1 (omega (arith, h))

  each_at : (many i : ℕ) (rows wide : List (List A)) → AllZip (λ (row w : List A). AddsBlanks is_blank row w many) rows wide → i < length rows → AddsBlanks is_blank (get_or rows i []) (get_or wide i []) many
  each_at many i [] wide each h = absurd (omega (arith, h))
  each_at many i (row ∷ rows) [] each h = absurd each
  each_at many zero (row ∷ rows) (w ∷ wide) each h = each.0
  each_at many (suc i) (row ∷ rows) (w ∷ wide) each h = each_at many i rows wide each.1 (omega (arith, h))

  module _ (many : ℕ) (old new : Grid A) (even : IsEven old) where
    pub added_even : (axis : Axis) → AddsLines is_blank axis many old new → IsEven new
    added_even Rows a = IsEven-adds_rows is_blank many old new a even
    added_even Columns a = IsEven-adds_columns is_blank many old new a even

    pub added_count : (axis : Axis) → 0 < old.rows → AddsLines is_blank axis many old new → count_along axis new ≡ count_along axis old + many
    added_count Rows some a = ap (λ (h : Grid A). h.rows) a.is
    added_count Columns some a = a.columns ∙ ap (λ (b : Bool). cond b old.columns (old.columns + many)) (ne_eqb old.rows 0 (λ e. omega (arith, e, some)))

    pub added_across : (axis : Axis) → AddsLines is_blank axis many old new → count_along (across axis) new ≡ count_along (across axis) old
    added_across Rows a = ap (λ (h : Grid A). h.columns) a.is
    added_across Columns a = a.rows

    wide_at : (i : ℕ) → i < old.rows → length (get_or old.cells i []) ≡ old.columns
    wide_at i h = All-from_recursion _ old.cells even.wide i [] (omega (arith, even.tall, h))

    pub added_kept : (axis : Axis) (i j : ℕ) → AddsLines is_blank axis many old new → i < count_along axis old → j < count_along (across axis) old → cell_at new (place_in axis i j) ≡ cell_at old (place_in axis i j)
    added_kept Rows i j a h k = ap (λ (g : Grid A). cell_at g (place i j)) a.is ∙ ap (λ (row : List A). slice_get row j) (get_or_append_left old.cells a.added [] i (omega (arith, even.tall, h)))
    added_kept Columns i j a h k =
        let put = each_at many j old.cells new.cells a.each (omega (arith, even.tall, k)) in
        ap (λ (row : List A). slice_get row i) put.is ∙ front_read (get_or old.cells j []) put.cells i (omega (arith, wide_at j k, h))

    pub added_blank : (axis : Axis) (i j : ℕ) → AddsLines is_blank axis many old new → count_along axis old ≤ i → i < count_along axis old + many → j < count_along (across axis) old → (c : A) × is_blank c × (cell_at new (place_in axis i j) ≡ Some c)
    added_blank Rows i j a h l k = grind (arith, common_steps, All-from_recursion, blank_at, get_or-append_right)
    added_blank Columns i j a h l k =
        let put = each_at many j old.cells new.cells a.each (omega (arith, even.tall, k)) in
        let wide = wide_at j k in
        let cell = blank_at put.cells (i - length (get_or old.cells j [])) put.blanks.blank (omega (arith, put.blanks.many, wide, h, l)) in
        (cell.0, cell.1, ap (λ (row : List A). slice_get row i) put.is ∙ back_read (get_or old.cells j []) put.cells i (omega (arith, wide, h)) ∙ cell.2)

    pub added_undone : (axis : Axis) (cut : Grid A) (n : ℕ) → IsEmptyWithoutRows old → AddsLines is_blank axis many old new → n ≡ count_along axis old → cut ≡ first_along axis n new → cut ≡ old
    added_undone Rows cut n none a e is = rows_taken_back is_blank many old new cut even none a (is ∙ ap (λ (m : ℕ). first_along Rows m new) e)
    added_undone Columns cut n none a e is = columns_taken_back is_blank many old new cut even a (is ∙ ap (λ (m : ℕ). first_along Columns m new) e)
