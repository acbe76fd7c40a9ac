-- Worked splits, by evaluation. A text is the list of one number, an empty text the empty list.
use Rattle.tabled_settings.proofs.Common.{[], ◌∷◌, ◌≡◌, Clean, Columns, Concat, Grid, List, Retain, Rows, Split, Zip, glued, grid_of, refl, split, ℕ}

abbrev t : ℕ → List ℕ
t n = n ∷ []

abbrev e : List ℕ
e = []

abbrev column : ℕ → Split
column n = record { lines = Rows; behavior = Zip; display = Clean; index = n }

abbrev row : ℕ → Split
row n = record { lines = Columns; behavior = Zip; display = Clean; index = n }

-- a b c d e / f g h i j
abbrev wide : Grid (List ℕ)
wide = grid_of ((t 1 ∷ t 2 ∷ t 3 ∷ t 4 ∷ t 5 ∷ []) ∷ (t 6 ∷ t 7 ∷ t 8 ∷ t 9 ∷ t 10 ∷ []) ∷ [])

zipped : split (column 2) wide ≡ grid_of ((t 1 ∷ t 2 ∷ []) ∷ (t 3 ∷ t 4 ∷ []) ∷ (t 5 ∷ e ∷ []) ∷ (t 6 ∷ t 7 ∷ []) ∷ (t 8 ∷ t 9 ∷ []) ∷ (t 10 ∷ e ∷ []) ∷ [])
zipped = refl

concatenated : split (record (column 2) { behavior = Concat }) wide ≡ grid_of ((t 1 ∷ t 2 ∷ []) ∷ (t 6 ∷ t 7 ∷ []) ∷ (t 3 ∷ t 4 ∷ []) ∷ (t 8 ∷ t 9 ∷ []) ∷ (t 5 ∷ e ∷ []) ∷ (t 10 ∷ e ∷ []) ∷ [])
concatenated = refl

-- each three rows joined and cut at five
zip_glued : glued (record (column 2) { display = Retain }) 2 5 (split (record (column 2) { display = Retain }) wide) ≡ wide
zip_glued = refl

concat_glued : glued (record (column 2) { behavior = Concat; display = Retain }) 2 5 (split (record (column 2) { behavior = Concat; display = Retain }) wide) ≡ wide
concat_glued = refl

-- a / b / c, cut at 2
columns_cut : split (row 2) (grid_of ((t 1 ∷ []) ∷ (t 2 ∷ []) ∷ (t 3 ∷ []) ∷ [])) ≡ grid_of ((t 1 ∷ t 3 ∷ []) ∷ (t 2 ∷ e ∷ []) ∷ [])
columns_cut = refl

columns_glued : glued (record (row 2) { display = Retain }) 3 1 (grid_of ((t 1 ∷ t 3 ∷ []) ∷ (t 2 ∷ e ∷ []) ∷ [])) ≡ grid_of ((t 1 ∷ []) ∷ (t 2 ∷ []) ∷ (t 3 ∷ []) ∷ [])
columns_glued = refl

-- a b c d e / f g h _ _, cut at 3
abbrev ten : Grid (List ℕ)
ten = grid_of ((t 1 ∷ t 2 ∷ t 3 ∷ t 4 ∷ t 5 ∷ []) ∷ (t 6 ∷ t 7 ∷ t 8 ∷ e ∷ e ∷ []) ∷ [])

clean_ten : split (column 3) ten ≡ grid_of ((t 1 ∷ t 2 ∷ t 3 ∷ []) ∷ (t 4 ∷ t 5 ∷ e ∷ []) ∷ (t 6 ∷ t 7 ∷ t 8 ∷ []) ∷ [])
clean_ten = refl

retain_ten : split (record (column 3) { display = Retain }) ten ≡ grid_of ((t 1 ∷ t 2 ∷ t 3 ∷ []) ∷ (t 4 ∷ t 5 ∷ e ∷ []) ∷ (t 6 ∷ t 7 ∷ t 8 ∷ []) ∷ (e ∷ e ∷ e ∷ []) ∷ [])
retain_ten = refl

first_stays : split (column 2) (grid_of ((e ∷ e ∷ t 1 ∷ []) ∷ [])) ≡ grid_of ((e ∷ e ∷ []) ∷ (t 1 ∷ e ∷ []) ∷ [])
first_stays = refl

-- a _ _ d / e f _ _, cut at 1
abbrev gaps : Grid (List ℕ)
gaps = grid_of ((t 1 ∷ e ∷ e ∷ t 4 ∷ []) ∷ (t 5 ∷ t 6 ∷ e ∷ e ∷ []) ∷ [])

concat_gaps : split (record (column 1) { behavior = Concat }) gaps ≡ grid_of ((t 1 ∷ []) ∷ (t 5 ∷ []) ∷ (t 6 ∷ []) ∷ (t 4 ∷ []) ∷ [])
concat_gaps = refl

zip_gaps : split (column 1) gaps ≡ grid_of ((t 1 ∷ []) ∷ (t 4 ∷ []) ∷ (t 5 ∷ []) ∷ (t 6 ∷ []) ∷ [])
zip_gaps = refl

retain_gaps : split (record (column 1) { behavior = Concat; display = Retain }) gaps ≡ grid_of ((t 1 ∷ []) ∷ (t 5 ∷ []) ∷ (e ∷ []) ∷ (t 6 ∷ []) ∷ (e ∷ []) ∷ (e ∷ []) ∷ (t 4 ∷ []) ∷ (e ∷ []) ∷ [])
retain_gaps = refl
