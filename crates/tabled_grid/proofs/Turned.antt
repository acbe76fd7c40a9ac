-- Rows made of columns, by items that are pushed to all rows at once.
use Rattle.tabled_grid.proofs.Common.{[], ◌++◌, ◌+◌, ◌<◌, ◌∙◌, ◌∷◌, ◌≡◌, AreWide, Bool, IsEven, List, Vec, ap, append-nil, append_assoc, ap₂, arith, common_steps, cond, drop, drop-drop, drop-set-lt, drop_more, first_left, get_or, get_or-map, grid_of, if◌then◌else◌, length, length-map, length-replicate, length-set, map, map-set, map_items, ne_eqb, refl, replicate, set, subst, suc, sym, take, take_more_set, transposed, transposed_rows, width_of, with_items_behind, zero, zip, ℕ}
use Rattle.std.proofs.Common.{◌==◌}
use Rattle.tabled_grid.proofs.NestedRows.{HaveGrid, have_grid}
use Rattle.tabled_grid.proofs.Transposed.{length-transposed, wide-transposed}

-- each row with a row of others behind it
abbrev pub with_rows_behind : {A : Type 0} → List (List A) → List (List A) → List (List A)
with_rows_behind {A} rows others = map (λ (p : List A × List A). p.0 ++ p.1) (zip rows others)

-- the first i rows have their items, and the others are as they were
pub record PushedTo {A : Type 0} (old new : List (Vec A)) (items left : List A) (i : ℕ) : Type 0 where
  pub is : with_items_behind (map_items old) items ≡ take i (map_items new) ++ with_items_behind (drop i (map_items new)) left
  pub rest : drop i new ≡ drop i old
  pub same : length new ≡ length old
  pub many : length left + i ≡ length old

module _ {A : Type 0} where
  -- the next row is still as it was
  pub pushed_next : (old new : List (Vec A)) (items left : List A) (i : ℕ) (d : Vec A) → PushedTo old new items left i → get_or new i d ≡ get_or old i d
  pushed_next old new items left i d h = sym (first_left new i d) ∙ ap (λ rows. get_or rows 0 d) h.rest ∙ first_left old i d

  item_put : (rows : List (List A)) (i : ℕ) (d row : List A) (item : A) (left : List A) → i < length rows → row ≡ get_or rows i d ++ item ∷ [] →
      take i rows ++ with_items_behind (drop i rows) (item ∷ left) ≡ take (i + 1) (set rows i row) ++ with_items_behind (drop (i + 1) (set rows i row)) left
  item_put rows i d row item left inside is = grind (arith, common_steps, drop_more, append_assoc, take_more_set, drop-set-lt)

  pub pushed_more : (old new : List (Vec A)) (items left : List A) (i : ℕ) (d row : Vec A) (item : A) → i < length old → row.items ≡ (get_or new i d).items ++ item ∷ [] → PushedTo old new items (item ∷ left) i → PushedTo old (set new i row) items left (i + 1)
  pushed_more old new items left i d row item inside is h = record {
    is = h.is
        ∙ item_put (map_items new) i d.items row.items item left (omega (arith, length-map new (λ (v : Vec A). v.items), h.same)) (is ∙ ap (λ (r : List A). r ++ item ∷ []) (sym (get_or-map (λ (v : Vec A). v.items) new i d)))
        ∙ ap (λ (rows : List (List A)). take (i + 1) rows ++ with_items_behind (drop (i + 1) rows) left) (sym (map-set (λ (v : Vec A). v.items) new i row));
    rest = drop-set-lt (i + 1) new i row (omega arith) ∙ sym (drop-drop 1 i new) ∙ ap (drop 1) h.rest ∙ drop-drop 1 i old;
    same = length-set new i row ∙ h.same;
    many = omega (arith, h.many);
  }

  none_behind : (n : ℕ) (rows : List (List A)) → length rows ≡ n → with_rows_behind (replicate n []) rows ≡ rows
  none_behind zero [] e = refl
  none_behind zero (row ∷ rows) e = absurd (omega arith)
  none_behind (suc n) [] e = absurd (omega arith)
  none_behind (suc n) (row ∷ rows) e = ap (λ rs. row ∷ rs) (none_behind n rows (omega arith))

  behind_none : (n : ℕ) (rows : List (List A)) → length rows ≡ n → with_rows_behind rows (replicate n []) ≡ rows
  behind_none zero [] e = refl
  behind_none zero (row ∷ rows) e = absurd (omega arith)
  behind_none (suc n) [] e = absurd (omega arith)
  behind_none (suc n) (row ∷ rows) e = ap₂ (λ r rs. r ∷ rs) (append-nil row) (behind_none n rows (omega arith))

  item_behind : (rows : List (List A)) (items : List A) (others : List (List A)) → with_rows_behind rows (map (λ (p : A × List A). p.0 ∷ p.1) (zip items others)) ≡ with_rows_behind (with_items_behind rows items) others
  item_behind [] items others = refl
  item_behind (row ∷ rows) [] others = refl
  item_behind (row ∷ rows) (item ∷ items) [] = refl
  item_behind (row ∷ rows) (item ∷ items) (other ∷ others) = ap₂ (λ r rs. r ∷ rs) (sym (append_assoc row (item ∷ []) other)) (item_behind rows items others)

  pub length-empty_rows : (n : ℕ) (rows : List (Vec A)) → map_items rows ≡ replicate n [] → length rows ≡ n
  length-empty_rows n rows empty = sym (length-map rows (λ (v : Vec A). v.items)) ∙ ap length empty ∙ length-replicate n []

  -- rows of columns are what they will be once the columns of the rows that are left stand behind them
  pub behind_begun : (columns : ℕ) (rows : List (List A)) → AreWide columns rows → transposed_rows columns rows ≡ with_rows_behind (replicate columns []) (transposed_rows columns rows)
  behind_begun columns rows wide = sym (none_behind columns (transposed_rows columns rows) (length-transposed columns rows wide))

  pub behind_more : (columns : ℕ) (turned : List (List A)) (row : List A) (left : List (List A)) → with_rows_behind turned (transposed_rows columns (row ∷ left)) ≡ with_rows_behind (with_items_behind turned row) (transposed_rows columns left)
  behind_more columns turned row left = item_behind turned row (transposed_rows columns left)

  pub behind_done : (columns : ℕ) (turned : List (List A)) → length turned ≡ columns → with_rows_behind turned (transposed_rows columns []) ≡ turned
  behind_done columns turned tall = behind_none columns turned tall

  pub have_width : (columns : ℕ) (rows : List (List A)) → AreWide columns rows → 0 < length rows → width_of rows ≡ columns
  have_width columns [] wide some = absurd (omega (arith, some))
  have_width columns (row ∷ rows) wide some = wide.0

  pub even_rows : (columns : ℕ) (rows : List (List A)) → AreWide columns rows → 0 < length rows → IsEven (grid_of rows)
  even_rows columns rows wide some = record { tall = refl; wide = subst (λ (n : ℕ). AreWide n rows) (sym (have_width columns rows wide some)) wide }

  -- the grid of rows of columns
  pub have_turned : (rows new : List (List A)) → IsEven (grid_of rows) → 0 < width_of rows → new ≡ transposed_rows (width_of rows) rows → HaveGrid new (transposed (grid_of rows))
  have_turned rows new even some is = have_grid (transposed (grid_of rows)) new turned_even (λ e. absurd (omega (arith, e, some))) is
    where
      tall : (if width_of rows == 0 then 0 else length rows) ≡ length rows
      tall = ap (λ (b : Bool). cond b 0 (length rows)) (ne_eqb (width_of rows) 0 (λ e. omega (arith, e, some)))

      turned_even : IsEven (transposed (grid_of rows))
      turned_even = record { tall = length-transposed (width_of rows) rows even.wide; wide = subst (λ (n : ℕ). AreWide n (transposed_rows (width_of rows) rows)) (sym tall) (wide-transposed (width_of rows) rows) }
