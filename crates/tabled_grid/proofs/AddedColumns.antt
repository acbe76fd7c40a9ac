-- Columns of blanks added after the last column, and taken away again.
use Rattle.tabled_grid.proofs.Common.{[], ◌++◌, ◌+◌, ◌∙◌, ◌∷◌, ◌≡◌, AddsBlanks, AddsColumns, AllByRecursion, AllZip, Bool, Columns, Grid, InsertsColumn, IsEven, List, ap, append-nil, append_assoc, ap₂, arith, common_steps, cond, eqb, eqb-true, false, first_along, insert, insert_end, length, length-append, map, nil_from_length, refl, suc, sym, take, take_at, true, zip, ℕ}
use Rattle.tabled_grid.proofs.Blanks.{blanks-push}
use Rattle.tabled_grid.proofs.Resized.{wide_if}

same_either : (b : Bool) (n m : ℕ) → n ≡ m → n ≡ cond b n m
same_either true n m e = refl
same_either false n m e = e

-- columns added to columns added
both_added : (b : Bool) (c k n : ℕ) → n ≡ k + 1 → cond b (cond b c (c + k)) (cond b c (c + k) + 1) ≡ cond b c (c + n)
both_added true c k n e = refl
both_added false c k n e = omega (arith, e)

module _ {A : Type 0} (is_blank : A → Type 0) where
  -- blanks added to each of some rows
  abbrev pub AddsEach : ℕ → List (List A) → List (List A) → Type 0
  AddsEach many = AllZip (λ (row wide : List A). AddsBlanks is_blank row wide many)

  each_none : (rows : List (List A)) → AddsEach 0 rows rows
  each_none [] = tt
  each_none (row ∷ rows) =
      let none : List A = [] in
      (record { cells = none; blanks = record { blank = tt; many = refl }; is = sym (append-nil row) }, each_none rows)

  pub columns_added_none : (g : Grid A) → AddsColumns is_blank 0 g g
  columns_added_none g = record { rows = refl; columns = same_either (eqb g.rows 0) g.columns (g.columns + 0) (omega arith); each = each_none g.cells }

  each_more : (k n c : ℕ) (rows cur : List (List A)) (column : List A) → n ≡ k + 1 → AddsEach k rows cur → AllByRecursion (λ (row : List A). length row ≡ c) cur → AllByRecursion is_blank column → length column ≡ length cur →
      AddsEach n rows (map (λ (p : List A × A). insert p.0 c p.1) (zip cur column))
  each_more k n c [] [] column e a wide blank long = tt
  each_more k n c [] (r ∷ cur) column e a wide blank long = absurd a
  each_more k n c (row ∷ rows) [] column e a wide blank long = absurd a
  each_more k n c (row ∷ rows) (r ∷ cur) [] e a wide blank long = absurd (omega (arith, long))
  each_more k n c (row ∷ rows) (r ∷ cur) (x ∷ column) e a wide blank long =
      let put = a.0 in (
        record {
          cells = put.cells ++ x ∷ [];
          blanks = rw e (blanks-push is_blank k put.cells x put.blanks blank.0);
          is = ap (λ i. insert r i x) (sym wide.0) ∙ insert_end r x ∙ ap (λ ys. ys ++ x ∷ []) put.is ∙ append_assoc row put.cells (x ∷ []);
        },
        each_more k n c rows cur column e a.1 wide.1 blank.1 (omega (arith, long)),
      )

  -- rows that blanks were added to are as many, and so much longer
  pub each_tall : (k : ℕ) (rows cur : List (List A)) → AddsEach k rows cur → length cur ≡ length rows
  each_tall k [] [] a = refl
  each_tall k [] (r ∷ cur) a = absurd a
  each_tall k (row ∷ rows) [] a = absurd a
  each_tall k (row ∷ rows) (r ∷ cur) a = ap suc (each_tall k rows cur a.1)

  each_wide : (k c : ℕ) (rows cur : List (List A)) → AddsEach k rows cur → AllByRecursion (λ (row : List A). length row ≡ c) rows → AllByRecursion (λ (row : List A). length row ≡ c + k) cur
  each_wide k c [] [] a wide = tt
  each_wide k c [] (r ∷ cur) a wide = absurd a
  each_wide k c (row ∷ rows) [] a wide = absurd a
  each_wide k c (row ∷ rows) (r ∷ cur) a wide = (ap length a.0.is ∙ length-append row a.0.cells ∙ ap₂ (λ m n. m + n) wide.0 a.0.blanks.many, each_wide k c rows cur a.1 wide.1)

  pub IsEven-adds_columns : (k : ℕ) (old new : Grid A) → AddsColumns is_blank k old new → IsEven old → IsEven new
  IsEven-adds_columns k old new a even =
      let tall : length new.cells ≡ old.rows = each_tall k old.cells new.cells a.each ∙ even.tall in
      record {
        tall = tall ∙ sym a.rows;
        wide = rw a.columns (wide_if (eqb old.rows 0) old.columns (old.columns + k) new.cells (λ e. nil_from_length _ (omega (arith, tall, eqb-true old.rows 0 e))) (each_wide k old.columns old.cells new.cells a.each even.wide));
      }

  -- one column more
  pub columns_added_more : (k n : ℕ) (old cur new : Grid A) → n ≡ k + 1 → IsEven old → AddsColumns is_blank k old cur → InsertsColumn is_blank cur new cur.columns → AddsColumns is_blank n old new
  columns_added_more k n old cur new e even a w =
      let wide : IsEven cur = IsEven-adds_columns k old cur a even in
      record {
        rows = ap (λ (h : Grid A). h.rows) w.is ∙ a.rows;
        columns = ap (λ (h : Grid A). h.columns) w.is ∙ ap₂ (λ (r c : ℕ). cond (eqb r 0) c (c + 1)) a.rows a.columns ∙ both_added (eqb old.rows 0) old.columns k n e;
        each = rw w.is (each_more k n cur.columns old.cells cur.cells w.column e a.each wide.wide w.blanks.blank (w.blanks.many ∙ sym wide.tall));
      }

  -- the rows as they were
  fronts : (k c : ℕ) (rows cur : List (List A)) → AddsEach k rows cur → AllByRecursion (λ (row : List A). length row ≡ c) rows → map (λ (row : List A). take c row) cur ≡ rows
  fronts k c [] [] a wide = refl
  fronts k c [] (r ∷ cur) a wide = absurd a
  fronts k c (row ∷ rows) [] a wide = absurd a
  fronts k c (row ∷ rows) (r ∷ cur) a wide = ap₂ (λ z zs. z ∷ zs) (ap (take c) a.0.is ∙ take_at row a.0.cells c wide.0) (fronts k c rows cur a.1 wide.1)

  pub columns_front : (k : ℕ) (old cur : Grid A) → IsEven old → AddsColumns is_blank k old cur → map (λ (row : List A). take old.columns row) cur.cells ≡ old.cells
  columns_front k old cur even a = fronts k old.columns old.cells cur.cells a.each even.wide

  pub columns_taken_back : (k : ℕ) (old cur new : Grid A) → IsEven old → AddsColumns is_blank k old cur → new ≡ first_along Columns old.columns cur → new ≡ old
  columns_taken_back k old cur new even a cut = grind (arith, common_steps, columns_front)
