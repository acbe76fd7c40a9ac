-- What is changed in columns is changed so in each row, and the other way round.
use Rattle.tabled_grid.proofs.Common.{[], ◌<◌, ◌∙◌, ◌∷◌, ◌≡◌, AreWide, List, all-insert, all-map, ap, ap₂, arith, drop, get_or, get_or-map, insert, length, length-drop, map, map-insert, map-set, nil_from_length, refl, set, set-get_or, subst, suc, sym, transposed_rows, zero, zip, ℕ}
use Rattle.tabled_grid.proofs.Transposed.{at-transposed, length-transposed, same_rows, wide-transposed}

module _ {A : Type 0} where
  -- columns of rows, and rows of them again
  pub turned_twice : (r c : ℕ) (rows : List (List A)) → length rows ≡ r → AreWide c rows → transposed_rows r (transposed_rows c rows) ≡ rows
  turned_twice r c rows tall wide =
      let columns : List (List A) = transposed_rows c rows in
      let long : AreWide r columns = subst (λ (n : ℕ). AreWide n columns) tall (wide-transposed c rows) in
      same_rows r c (transposed_rows r columns) rows
      (length-transposed r columns long) tall
      (subst (λ (n : ℕ). AreWide n (transposed_rows r columns)) (length-transposed c rows wide) (wide-transposed r columns)) wide
      (λ a b h k. at-transposed r columns a b long ∙ at-transposed c rows b a wide)

  -- the first cell of a column, and those below it
  abbrev head : A → List A → A
  head d column = get_or column 0 d

  abbrev below : List A → List A
  below column = drop 1 column

  below_wide : (r : ℕ) (columns : List (List A)) → AreWide (suc r) columns → AreWide r (map below columns)
  below_wide r columns wide = all-map (λ (column : List A). length column ≡ suc r) (λ (column : List A). length column ≡ r) below (λ column w. omega (arith, w, length-drop 1 column)) columns wide

  -- columns, row by row
  first_row : (d : A) (r : ℕ) (columns : List (List A)) → AreWide (suc r) columns → transposed_rows (suc r) columns ≡ map (head d) columns ∷ transposed_rows r (map below columns)
  first_row d r [] wide = refl
  first_row d r ([] ∷ columns) wide = absurd (omega (arith, wide.0))
  first_row d r ((x ∷ column) ∷ columns) wide = ap (λ (rows : List (List A)). map (λ (p : A × List A). p.0 ∷ p.1) (zip (x ∷ column) rows)) (first_row d r columns wide.1)

  no_rows : (columns : List (List A)) → AreWide 0 columns → transposed_rows 0 columns ≡ []
  no_rows columns wide = nil_from_length (transposed_rows 0 columns) (length-transposed 0 columns wide)

  -- a list is changed by its places alone, whatever its members are
  module _ (f : (X : Type 0) → List X → List X) (by_place : (X Y : Type 0) (g : X → Y) (xs : List X) → map g (f X xs) ≡ f Y (map g xs)) where
    changed_from : (d : A) (r : ℕ) (columns : List (List A)) → AreWide r columns → AreWide r (f (List A) columns) → transposed_rows r (f (List A) columns) ≡ map (f A) (transposed_rows r columns)
    changed_from d zero columns wide new_wide = no_rows (f (List A) columns) new_wide ∙ ap (map (f A)) (sym (no_rows columns wide))
    changed_from d (suc r) columns wide new_wide =
        let lower : map below (f (List A) columns) ≡ f (List A) (map below columns) = by_place (List A) (List A) below columns in
        first_row d r (f (List A) columns) new_wide
        ∙ ap₂ (λ row rows. row ∷ rows) (by_place (List A) A (head d) columns)
        (ap (transposed_rows r) lower ∙ changed_from d r (map below columns) (below_wide r columns wide) (subst (λ (cs : List (List A)). AreWide r cs) lower (below_wide r (f (List A) columns) new_wide)))
        ∙ ap (map (f A)) (sym (first_row d r columns wide))

    -- the columns are changed, or each row
    pub changed_across : (r : ℕ) (columns : List (List A)) → 0 < length columns → AreWide r columns → AreWide r (f (List A) columns) → transposed_rows r (f (List A) columns) ≡ map (f A) (transposed_rows r columns)
    changed_across r [] some wide new_wide = absurd (omega (arith, some))
    changed_across r ((x ∷ column) ∷ columns) some wide new_wide = changed_from x r ((x ∷ column) ∷ columns) wide new_wide
    changed_across zero ([] ∷ columns) some wide new_wide = no_rows (f (List A) ([] ∷ columns)) new_wide ∙ ap (map (f A)) (sym (no_rows ([] ∷ columns) wide))
    changed_across (suc r) ([] ∷ columns) some wide new_wide = absurd (omega (arith, wide.0))

  -- a column is put in, or a cell into each row
  pub inserted_across : (r j : ℕ) (columns : List (List A)) (column : List A) → length column ≡ r → AreWide r columns →
      transposed_rows r (insert columns j column) ≡ map (λ (p : List A × A). insert p.0 j p.1) (zip (transposed_rows r columns) column)
  inserted_across zero j columns column long wide =
      no_rows (insert columns j column) (all-insert (λ (c : List A). length c ≡ 0) columns j column wide long)
      ∙ ap (λ (rows : List (List A)). map (λ (p : List A × A). insert p.0 j p.1) (zip rows column)) (sym (no_rows columns wide))
  inserted_across (suc r) j columns [] long wide = absurd (omega (arith, long))
  inserted_across (suc r) j columns (x ∷ column) long wide =
      first_row x r (insert columns j (x ∷ column)) (all-insert (λ (c : List A). length c ≡ suc r) columns j (x ∷ column) wide long)
      ∙ ap₂ (λ row rows. row ∷ rows) (map-insert (head x) columns j (x ∷ column))
      (ap (transposed_rows r) (map-insert below columns j (x ∷ column)) ∙ inserted_across r j (map below columns) column (omega (arith, long)) (below_wide r columns wide))
      ∙ ap (λ (rows : List (List A)). map (λ (p : List A × A). insert p.0 j p.1) (zip rows (x ∷ column))) (sym (first_row x r columns wide))

  head_set : (column : List A) (x : A) → head x (set column 0 x) ≡ x
  head_set [] x = refl
  head_set (y ∷ column) x = refl

  head_kept : (column : List A) (i : ℕ) (x : A) → head x (set column (suc i) x) ≡ head x column
  head_kept [] i x = refl
  head_kept (y ∷ column) i x = refl

  below_kept : (column : List A) (x : A) → below (set column 0 x) ≡ below column
  below_kept [] x = refl
  below_kept (y ∷ column) x = refl

  below_set : (column : List A) (i : ℕ) (x : A) → below (set column (suc i) x) ≡ set (below column) i x
  below_set [] i x = refl
  below_set (y ∷ column) i x = refl

  -- a cell is written in a column, or in a row
  pub written_across : (r i j : ℕ) (columns : List (List A)) (x : A) → AreWide r columns → AreWide r (set columns j (set (get_or columns j []) i x)) →
      transposed_rows r (set columns j (set (get_or columns j []) i x)) ≡ set (transposed_rows r columns) i (set (get_or (transposed_rows r columns) i []) j x)
  written_across zero i j columns x wide new_wide = rw (no_rows _ new_wide, no_rows columns wide) refl
  written_across (suc r) zero j columns x wide new_wide =
      first_row x r _ new_wide
      ∙ ap₂ (λ row rows. row ∷ rows)
      (map-set (head x) columns j _ ∙ ap (set (map (head x) columns) j) (head_set (get_or columns j []) x))
      (ap (transposed_rows r) (map-set below columns j _ ∙ ap (set (map below columns) j) (below_kept (get_or columns j []) x ∙ sym (get_or-map below columns j [])) ∙ set-get_or (map below columns) j []))
      ∙ ap (λ (rows : List (List A)). set rows 0 (set (get_or rows 0 []) j x)) (sym (first_row x r columns wide))
  written_across (suc r) (suc i) j columns x wide new_wide =
      let lower : map below (set columns j (set (get_or columns j []) (suc i) x)) ≡ set (map below columns) j (set (get_or (map below columns) j []) i x) =
      map-set below columns j _ ∙ ap (set (map below columns) j) (below_set (get_or columns j []) i x ∙ ap (λ (c : List A). set c i x) (sym (get_or-map below columns j []))) in
      first_row x r _ new_wide
      ∙ ap₂ (λ row rows. row ∷ rows)
      (map-set (head x) columns j _ ∙ ap (set (map (head x) columns) j) (head_kept (get_or columns j []) i x ∙ sym (get_or-map (head x) columns j [])) ∙ set-get_or (map (head x) columns) j x)
      (ap (transposed_rows r) lower ∙ written_across r i j (map below columns) x (below_wide r columns wide) (subst (λ (cs : List (List A)). AreWide r cs) lower (below_wide r _ new_wide)))
      ∙ ap (λ (rows : List (List A)). set rows (suc i) (set (get_or rows (suc i) []) j x)) (sym (first_row x r columns wide))
