-- Rows of blanks added below the last row, and taken away again.
use Rattle.tabled_grid.proofs.Common.{[], ◌+◌, ◌∙◌, ◌∷◌, ◌≡◌, AddsRows, AllByRecursion, AreBlanks, Grid, InsertsRow, IsEmptyWithoutRows, IsEven, List, Rows, all-append, append-nil, append_assoc, ap₂, arith, common_steps, eqb-true, first_along, insert_end, length, length-append, length_push, take_at, ℕ}
use Rattle.tabled_grid.proofs.FirstLines.{either_way}

abbrev grid : {A : Type 0} → ℕ → ℕ → List (List A) → Grid A
grid rows columns cells = record { rows = rows; columns = columns; cells = cells }

module _ {A : Type 0} (is_blank : A → Type 0) where
  pub rows_added_none : (g : Grid A) → AddsRows is_blank 0 g g
  rows_added_none g = grind (arith, common_steps, append-nil)

  -- one row more
  pub rows_added_more : (k n : ℕ) (old cur new : Grid A) → n ≡ k + 1 → IsEven old → AddsRows is_blank k old cur → InsertsRow is_blank cur new cur.rows → AddsRows is_blank n old new
  rows_added_more k n old cur new e even a w = grind (arith, common_steps, length-append, insert_end, append_assoc, all-append, length_push)

  pub rows_taken_back : (k : ℕ) (old cur new : Grid A) → IsEven old → IsEmptyWithoutRows old → AddsRows is_blank k old cur → new ≡ first_along Rows old.rows cur → new ≡ old
  rows_taken_back k old cur new even none a cut = grind (arith, common_steps, either_way, eqb-true, take_at)

  pub wide_blanks : (c : ℕ) (rows : List (List A)) → AllByRecursion (AreBlanks is_blank c) rows → AllByRecursion (λ (row : List A). length row ≡ c) rows
  wide_blanks c [] h = tt
  wide_blanks c (row ∷ rows) h = (h.0.many, wide_blanks c rows h.1)

  pub IsEven-adds_rows : (k : ℕ) (old new : Grid A) → AddsRows is_blank k old new → IsEven old → IsEven new
  IsEven-adds_rows k old new a even = rw a.is (record {
    tall = length-append old.cells a.added ∙ ap₂ (λ m n. m + n) even.tall a.many_are;
    wide = all-append (λ (row : List A). length row ≡ old.columns) old.cells a.added even.wide (wide_blanks old.columns a.added a.blanks);
  })
