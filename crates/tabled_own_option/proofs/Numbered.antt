-- The first column while numbers are written into it, from the first row on.
use Rattle.std.proofs.Common.{◌≡◌, ℕ, zero, suc, ◌+◌, ◌-◌, ◌<◌, false, cond, List, [], ◌∷◌, ◌++◌, refl, sym, ap, ap₂, ◌∙◌, arith, length, get_or, map, set, take}
use Rattle.std.specs.Fmt.{decimal}
use Rattle.std.specs.List.{insert, remove, zip}
use Rattle.std.specs.Prelude.{nat_eq}
use Rattle.std.proofs.lemmas.Bool.{false_from_ne_true}
use Rattle.std.proofs.lemmas.List.{length-set, map_push, take_more_set}
use Rattle.std.proofs.lemmas.List.FromFn.{map-range_with_len_more}
use borrow.Author.Tests.{eqb-true}
use Rattle.tabled_grid.specs.Entity.{place}
use Rattle.tabled_grid.specs.Grid.{Grid, IsEven, WritesText, with_cell}
use Rattle.tabled_grid.specs.Resized.{InsertsColumn, with_column, without_column}
use Rattle.tabled_own_option.specs.RowNumbers.{row_numbers}

module _ {A : Type 0} where
  -- a column is put in first, whose first cells are the numbers of n rows
  pub record Numbered (text_of : A → List ℕ) (many : ℕ) (g h : Grid A) : Type 0 where
    pub column : List A
    pub long : length column ≡ g.rows
    pub texts : map text_of (take many column) ≡ row_numbers many
    pub is : h ≡ with_column g 0 column

  abbrev beside : List (List A) → List A → List (List A)
  beside rows column = map (λ (p : List A × A). insert p.0 0 p.1) (zip rows column)

  pub none_numbered : (is_blank : A → Type 0) (text_of : A → List ℕ) (g h : Grid A) → InsertsColumn is_blank g h 0 → Numbered text_of 0 g h
  none_numbered is_blank text_of g h inserts = record { column = inserts.column; long = inserts.blanks.many; texts = refl; is = inserts.is }

  -- another first cell in a row of the grid is another cell in the column
  written : (rows : List (List A)) (column : List A) (i : ℕ) (cell : A) → length column ≡ length rows → set (beside rows column) i (set (get_or (beside rows column) i []) 0 cell) ≡ beside rows (set column i cell)
  written [] [] i cell long = refl
  written [] (x ∷ column) i cell long = absurd (omega (arith, long))
  written (row ∷ rows) [] i cell long = absurd (omega (arith, long))
  written ([] ∷ rows) (x ∷ column) zero cell long = refl
  written ((y ∷ row) ∷ rows) (x ∷ column) zero cell long = refl
  written (row ∷ rows) (x ∷ column) (suc i) cell long = ap (λ cells. insert row 0 x ∷ cells) (written rows column i cell (omega (arith, long)))

  pub one_more_numbered : (text_of : A → List ℕ) (row : ℕ) (g h k : Grid A) → IsEven g → row < g.rows → Numbered text_of row g h → WritesText text_of h k (place row 0) (decimal (row + 1)) → Numbered text_of (row + 1) g k
  one_more_numbered text_of row g h k even within numbered writes = record {
    column = set numbered.column row writes.cell;
    long = length-set numbered.column row writes.cell ∙ numbered.long;
    texts =
        ap (map text_of) (take_more_set numbered.column row writes.cell (omega (arith, within, numbered.long)))
        ∙ map_push text_of (take row numbered.column) writes.cell
        ∙ ap₂ (λ (ts : List (List ℕ)) (t : List ℕ). ts ++ t ∷ []) numbered.texts writes.has
        ∙ sym (map-range_with_len_more decimal 1 row (row + 1) (omega arith));
    is =
        writes.is
        ∙ ap (λ (f : Grid A). with_cell f (place row 0) writes.cell) numbered.is
        ∙ ap (λ cells. let f : Grid A = record { rows = g.rows; columns = cond (nat_eq g.rows 0) g.columns (g.columns + 1); cells = cells } in f) (written g.cells numbered.column row writes.cell (omega (arith, numbered.long, even.tall)));
  }

  taken_away : (rows : List (List A)) (column : List A) → length column ≡ length rows → map (λ (row : List A). remove row 0) (beside rows column) ≡ rows
  taken_away [] column long = refl
  taken_away (row ∷ rows) [] long = absurd (omega (arith, long))
  taken_away ([] ∷ rows) (x ∷ column) long = ap (λ (cells : List (List A)). [] ∷ cells) (taken_away rows column (omega (arith, long)))
  taken_away ((y ∷ row) ∷ rows) (x ∷ column) long = ap (λ (cells : List (List A)). (y ∷ row) ∷ cells) (taken_away rows column (omega (arith, long)))

  -- without the first column, the table is as it was
  pub taken_back : (text_of : A → List ℕ) (many : ℕ) (g h : Grid A) → IsEven g → 0 < g.rows → Numbered text_of many g h → without_column h 0 ≡ g
  taken_back text_of many g h even some numbered =
      let rows : nat_eq g.rows 0 ≡ false = false_from_ne_true _ (λ e. omega (arith, some, eqb-true _ _ e)) in
      ap (λ (f : Grid A). without_column f 0) numbered.is
      ∙ ap₂ (λ b cells. let f : Grid A = record { rows = g.rows; columns = cond b g.columns (g.columns + 1) - 1; cells = cells } in f) rows (taken_away g.cells numbered.column (omega (arith, numbered.long, even.tall)))
      ∙ ap (λ n. let f : Grid A = record { rows = g.rows; columns = n; cells = g.cells } in f) (omega arith)
