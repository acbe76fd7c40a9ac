-- What is left after cleaning.
use Rattle.tabled_table.proofs.Common.{[], ◌&&◌, ◌+◌, ◌<◌, ◌∙◌, ◌∷◌, ◌≡◌, All, All-head, All-tail, Bool, Builder, IsClean, List, and_parts, ap, ap₂, arith, cleaned, column_of, columns_with_text, common_steps, cond, cond_both, fill_by_all, filter, filter_passes, get_or, get_or-map, get_or-range_with_len, has_text_in, is_empty_text, length, length-range_with_len, list_all, map, map-even, map-id, maps_agree, not-false, only_columns, range_with_len, recursion_from_All, refl, row_has_text, subst, suc, sym, true, zero, ℕ}
use Rattle.tabled_table.proofs.Cleaned.{even-cleaned}

-- a row without a text has none at j
no_text_at : (row : List (List ℕ)) (j : ℕ) → list_all is_empty_text row ≡ true → is_empty_text (get_or row j []) ≡ true
no_text_at [] j none = refl
no_text_at (text ∷ row) zero none = (and_parts (is_empty_text text) (list_all is_empty_text row) none).0
no_text_at (text ∷ row) (suc j) none = no_text_at row j (and_parts (is_empty_text text) (list_all is_empty_text row) none).1

-- a column has the texts that it had, where rows without one are gone
same_texts : (rows : List (List (List ℕ))) (j : ℕ) → list_all is_empty_text (column_of (filter row_has_text rows) j) ≡ list_all is_empty_text (column_of rows j)
same_texts [] j = refl
same_texts (row ∷ rows) j =
    let kept = filter row_has_text rows in
    cond_both (row_has_text row) (row ∷ kept) kept (λ rs. list_all is_empty_text (column_of rs j) ≡ list_all is_empty_text (column_of (row ∷ rows) j))
    (λ some. ap (λ b. is_empty_text (get_or row j []) && b) (same_texts rows j))
    (λ none. same_texts rows j ∙ ap (λ b. b && list_all is_empty_text (column_of rows j)) (sym (no_text_at row j (not-false (list_all is_empty_text row) none))))

column_of-only_columns : (ks : List ℕ) (rows : List (List (List ℕ))) (j : ℕ) → j < length ks → column_of (only_columns ks rows) j ≡ column_of rows (get_or ks j 0)
column_of-only_columns ks rows j within =
    maps_agree (λ texts. get_or texts j []) (λ row. map (λ k. get_or row k []) ks) (λ row. get_or row (get_or ks j 0) []) (λ row. row) (λ row. get_or-map (λ k. get_or row k []) ks j 0 [] within) rows
    ∙ ap (λ rs. column_of rs (get_or ks j 0)) (map-id rows)

-- where each passes, a filter keeps all
filter_same : {A : Type 0} (test : A → Bool) (xs : List A) → All (λ x. test x ≡ true) xs → filter test xs ≡ xs
filter_same test [] h = refl
filter_same test (x ∷ xs) h = ap (λ b. cond b (x ∷ filter test xs) (filter test xs)) (All-head (λ y. test y ≡ true) x xs h) ∙ ap (λ ys. x ∷ ys) (filter_same test xs (All-tail (λ y. test y ≡ true) x xs h))

columns_kept : (b : Builder) (j : ℕ) → j < length (columns_with_text b) → has_text_in (cleaned b).rows j ≡ true
columns_kept b j h = grind (arith, common_steps, same_texts, column_of-only_columns, filter_passes)

rows_kept : (b : Builder) → All (λ row. row_has_text row ≡ true) (cleaned b).rows
rows_kept b = filter_passes row_has_text (only_columns (columns_with_text b) b.rows)

pub IsClean-cleaned : (b : Builder) → IsClean (cleaned b)
IsClean-cleaned b = record { rows = recursion_from_All (λ row. row_has_text row ≡ true) (cleaned b).rows (rows_kept b); columns = columns_kept b }

pub cleaned-cleaned : (b : Builder) → cleaned (cleaned b) ≡ cleaned b
cleaned-cleaned b =
    let rows = (cleaned b).rows in
    let n = length (columns_with_text b) in
    let count : length (range_with_len 0 n) ≡ n = length-range_with_len 0 n in
    let all : columns_with_text (cleaned b) ≡ range_with_len 0 n = filter_same (has_text_in rows) (range_with_len 0 n) (λ k d within. subst (λ j. has_text_in rows j ≡ true) (sym (get_or-range_with_len 0 n k d (omega arith))) (columns_kept b (0 + k) (omega arith))) in
    let whole : only_columns (range_with_len 0 n) rows ≡ rows = map-even n (λ row. map (λ k. get_or row k []) (range_with_len 0 n)) (λ row long. sym (fill_by_all (λ k. get_or row k []) row n [] long (λ k h. refl))) rows (even-cleaned (columns_with_text b) b.rows row_has_text) in
    ap (λ (ks : List ℕ). let c : Builder = record b { columns = length ks; rows = filter row_has_text (only_columns ks rows) } in c) all
    ∙ ap₂ (λ (m : ℕ) (rs : List (List (List ℕ))). let c : Builder = record b { columns = m; rows = rs } in c) count (ap (filter row_has_text) whole ∙ filter_same row_has_text rows (rows_kept b))
