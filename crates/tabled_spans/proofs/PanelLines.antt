-- A line put in, with a text in its first cell, and the way back.
use Rattle.tabled_spans.proofs.Common.{[], ◌+◌, ◌-◌, ◌∙◌, ◌∷◌, ◌≡◌, ◌≤◌, AllByRecursion, AreBlanks, Axis, Columns, Grid, InsertsLine, IsEmptyWithoutRows, IsEven, List, Panels, PutsIn, Rows, SpanMap, WritesText, across, ap, ap₂, arith, common_steps, cond, count_along, eqb-true, false, false_from_ne_true, get_or, insert, is_crossed, length, lt-ltb, map, nat_eq, place, place_in, refl, remove, set, shifted, suc, with_cell, with_column, with_row, with_span, without_column, without_line, zero, zip, ℕ}
use Rattle.std.specs.Prelude.{replicate}
use Rattle.tabled_spans.proofs.PanelMaps.{panel_merged}

module _ {X : Type 0} where
  pub got_inserted : (xs : List X) (i : ℕ) (x d : X) → i ≤ length xs → get_or (insert xs i x) i d ≡ x
  got_inserted [] zero x d h = refl
  got_inserted [] (suc i) x d h = absurd (omega arith)
  got_inserted (y ∷ xs) zero x d h = refl
  got_inserted (y ∷ xs) (suc i) x d h = got_inserted xs i x d (omega arith)

  pub set_inserted : (xs : List X) (i : ℕ) (x y : X) → i ≤ length xs → set (insert xs i x) i y ≡ insert xs i y
  set_inserted [] zero x y h = refl
  set_inserted [] (suc i) x y h = absurd (omega arith)
  set_inserted (z ∷ xs) zero x y h = refl
  set_inserted (z ∷ xs) (suc i) x y h = ap (λ zs. z ∷ zs) (set_inserted xs i x y (omega arith))

  pub removed_inserted : (xs : List X) (i : ℕ) (x : X) → i ≤ length xs → remove (insert xs i x) i ≡ xs
  removed_inserted [] zero x h = refl
  removed_inserted [] (suc i) x h = absurd (omega arith)
  removed_inserted (z ∷ xs) zero x h = refl
  removed_inserted (z ∷ xs) (suc i) x h = ap (λ zs. z ∷ zs) (removed_inserted xs i x (omega arith))

module _ {A : Type 0} where
  wide_columns : (columns j : ℕ) (rows : List (List A)) (cells : List A) → AllByRecursion (λ (row : List A). length row ≡ columns) rows → length cells ≡ length rows → j ≤ columns → map (λ (row : List A). remove row j) (map (λ (p : List A × A). insert p.0 j p.1) (zip rows cells)) ≡ rows
  wide_columns columns j [] cells wide long h = refl
  wide_columns columns j (row ∷ rows) [] wide long h = absurd (omega arith)
  wide_columns columns j (row ∷ rows) (x ∷ cells) wide long h = ap₂ (λ (r : List A) rs. r ∷ rs) (removed_inserted row j x (omega (arith, wide.0))) (wide_columns columns j rows cells wide.1 (omega arith) h)

  no_rows : (g : Grid A) → IsEmptyWithoutRows g → 1 ≤ g.columns → nat_eq (g.rows + 1) 1 ≡ false
  no_rows g none cells = false_from_ne_true _ (λ e. let f = none (omega (arith, eqb-true _ _ e)) in omega arith)

  some_rows : (g : Grid A) → 1 ≤ g.rows → nat_eq g.rows 0 ≡ false
  some_rows g h = false_from_ne_true _ (λ e. omega (arith, eqb-true _ _ e))

  -- a line that is put in and removed leaves what was there
  pub undone : (is_blank : A → Type 0) (axis : Axis) (line : ℕ) (old mid : Grid A) → IsEven old → IsEmptyWithoutRows old → line ≤ count_along axis old → 1 ≤ count_along (across axis) old → InsertsLine is_blank axis old mid line → without_line axis line mid ≡ old
  undone is_blank Rows line old mid even none within cells inserts = grind (arith, common_steps, removed_inserted, no_rows)
  undone is_blank Columns line old mid even none within cells inserts = ap (λ h. without_column h line) inserts.is ∙ back
    where
      back : without_column (with_column old line inserts.column) line ≡ old
      back =
          ap₂ (λ b cs. let g : Grid A = record { rows = old.rows; columns = cond b old.columns (old.columns + 1) - 1; cells = cs } in g) (some_rows old cells) (wide_columns old.columns line old.cells inserts.column even.wide (omega (arith, inserts.blanks.many, even.tall)) within)
          ∙ ap (λ n. let g : Grid A = record { rows = old.rows; columns = n; cells = old.cells } in g) (omega arith)

module _ {A : Type 0} (is_blank : A → Type 0) (text_of : A → List ℕ) (empty : (x : A) → is_blank x → text_of x ≡ []) where
  no_texts : (cells : List A) (n : ℕ) → AllByRecursion is_blank cells → length cells ≡ n → map text_of cells ≡ replicate n []
  no_texts [] zero blank long = refl
  no_texts [] (suc n) blank long = absurd (omega arith)
  no_texts (x ∷ cells) zero blank long = absurd (omega arith)
  no_texts (x ∷ cells) (suc n) blank long = ap₂ (λ (t : List ℕ) ts. t ∷ ts) (empty x blank.0) (no_texts cells n blank.1 (omega arith))

  module _ (line : ℕ) (text : List ℕ) (old mid new : Grid A) (even : IsEven old) where
    puts_row : line ≤ old.rows → 1 ≤ old.columns → (row : List A) → AreBlanks is_blank old.columns row → mid ≡ with_row old line row → WritesText text_of mid new (place line 0) text → PutsIn is_blank text_of Rows line text old new
    puts_row within some [] blanks is writes = absurd (omega (arith, blanks.many))
    puts_row within some (x ∷ row) blanks is writes = grind (arith, common_steps, no_texts, got_inserted, set_inserted)

    puts_column : line ≤ old.columns → 1 ≤ old.rows → (column : List A) → AreBlanks is_blank old.rows column → mid ≡ with_column old line column → WritesText text_of mid new (place 0 line) text → PutsIn is_blank text_of Columns line text old new
    puts_column within some [] blanks is writes = absurd (omega (arith, blanks.many))
    puts_column within some (x ∷ column) blanks is writes = record {
      cells = writes.cell ∷ column;
      texts = ap₂ (λ (t : List ℕ) ts. t ∷ ts) writes.has (no_texts column (old.rows - 1) blanks.blank.1 (omega (arith, blanks.many)));
      blanks = blanks.blank.1;
      is = writes.is ∙ ap (λ h. with_cell h (place 0 line) writes.cell) is ∙ ap (λ cs. let g : Grid A = record { rows = old.rows; columns = cond (nat_eq old.rows 0) old.columns (old.columns + 1); cells = cs } in g) (put old.cells even.wide (omega (arith, even.tall)));
    }
      where
        put : (rows : List (List A)) → AllByRecursion (λ (r : List A). length r ≡ old.columns) rows → 1 ≤ length rows → set (map (λ (p : List A × A). insert p.0 line p.1) (zip rows (x ∷ column))) 0 (set (get_or (map (λ (p : List A × A). insert p.0 line p.1) (zip rows (x ∷ column))) 0 []) line writes.cell) ≡ map (λ (p : List A × A). insert p.0 line p.1) (zip rows (writes.cell ∷ column))
        put [] wide h = absurd (omega arith)
        put (r ∷ rows) wide h = ap (λ (s : List A). s ∷ map (λ (p : List A × A). insert p.0 line p.1) (zip rows column)) (set_inserted r line x writes.cell (omega (arith, wide.0)))

  pub put_in : (axis : Axis) (line : ℕ) (text : List ℕ) (old mid new : Grid A) → IsEven old → line ≤ count_along axis old → 1 ≤ count_along (across axis) old → InsertsLine is_blank axis old mid line → WritesText text_of mid new (place_in axis line 0) text → PutsIn is_blank text_of axis line text old new
  put_in Rows line text old mid new even within some inserts writes = puts_row line text old mid new even within some inserts.row inserts.blanks inserts.is writes
  put_in Columns line text old mid new even within some inserts writes = puts_column line text old mid new even within some inserts.column inserts.blanks inserts.is writes

  -- a panel is put in and merged
  pub panelled : (axis : Axis) (line : ℕ) (text : List ℕ) (old mid new : Grid A) (m n : SpanMap) → IsEven old → line ≤ count_along axis old → 1 ≤ count_along (across axis) old → is_crossed axis line m ≡ false → InsertsLine is_blank axis old mid line → WritesText text_of mid new (place_in axis line 0) text → n ≡ with_span (across axis) (shifted axis line m) (place_in axis line 0) (count_along (across axis) old) → Panels is_blank text_of axis line text old m new n
  panelled axis line text old mid new m n even within some free inserts writes merged = grind (arith, common_steps, put_in, panel_merged, lt-ltb)
