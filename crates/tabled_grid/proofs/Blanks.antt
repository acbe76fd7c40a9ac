-- Rows and columns of blanks.
use Rattle.tabled_grid.proofs.Common.{[], ◌++◌, ◌+◌, ◌∷◌, ◌≡◌, ◌≤◌, AllZip, AreBlanks, Grid, InsertsBlank, InsertsColumn, InsertsRow, IsEven, List, all-append, ap, ap₂, arith, common_steps, insert, length, length_push, map, refl, suc, zip, ℕ}
use Rattle.tabled_grid.proofs.Resized.{IsEven-with_row, IsEven-with_column}

-- one blank more
pub blanks-push : {A : Type 0} (is_blank : A → Type 0) (count : ℕ) (cells : List A) (cell : A) → AreBlanks is_blank count cells → is_blank cell → AreBlanks is_blank (count + 1) (cells ++ cell ∷ [])
blanks-push is_blank count cells cell h b = grind (arith, common_steps, all-append, length_push)

module _ {A : Type 0} (is_blank : A → Type 0) where
  pub IsEven-inserts_row : (old new : Grid A) (i : ℕ) → i ≤ old.rows → InsertsRow is_blank old new i → IsEven old → IsEven new
  IsEven-inserts_row old new i h w even = rw w.is (IsEven-with_row old even i w.row h w.blanks.many)

  pub IsEven-inserts_column : (old new : Grid A) (j : ℕ) → j ≤ old.columns → InsertsColumn is_blank old new j → IsEven old → IsEven new
  IsEven-inserts_column old new j h w even = rw w.is (IsEven-with_column old j w.column h w.blanks.many even)

  -- the blanks that were inserted into rows, as a column
  pub record BlankColumn (j : ℕ) (old new : List (List A)) : Type 0 where
    pub column : List A
    pub blanks : AreBlanks is_blank (length old) column
    pub is : new ≡ map (λ (p : List A × A). insert p.0 j p.1) (zip old column)

  pub blank_column : (j : ℕ) (old new : List (List A)) → AllZip (InsertsBlank is_blank j) old new → BlankColumn j old new
  blank_column j [] [] h = record { column = []; blanks = record { blank = tt; many = refl }; is = refl }
  blank_column j [] (row ∷ new) h = absurd h
  blank_column j (row ∷ old) [] h = absurd h
  blank_column j (row ∷ old) (wide ∷ new) h =
      let rest = blank_column j old new h.1 in
      record {
        column = h.0.cell ∷ rest.column;
        blanks = record { blank = (h.0.blank, rest.blanks.blank); many = ap suc rest.blanks.many };
        is = ap₂ (λ row rows. row ∷ rows) h.0.is rest.is;
      }
