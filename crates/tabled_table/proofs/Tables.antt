-- The grid that equally long rows make.
use Rattle.tabled_table.proofs.Common.{[], ◌∙◌, ◌∷◌, ◌≡◌, AreWide, Builder, Global, IsEven, List, String, Vec, grid_of, length, length-map, map_grid, map_items, refl, row_texts, row_texts-items, string_bytes, subst, sym, table_of, texts_of, wide-cells, width_of, ℕ}

-- rows of one length are as long as the first
pub even-width : {A : Type 0} (n : ℕ) (rows : List (List A)) → AreWide n rows → AreWide (width_of rows) rows
even-width n [] even = tt
even-width {A} n (row ∷ rows) even = subst (λ m. AreWide m (row ∷ rows)) (sym even.0) even

pub IsEven-rows : (n : ℕ) (rows : List (Vec (String Global))) → AreWide n (row_texts rows) → IsEven (grid_of (map_items rows))
IsEven-rows n rows even = record { tall = refl; wide = even-width n (map_items rows) (wide-cells n rows even) }

tall-rows : (rows : List (Vec (String Global))) → length (map_items rows) ≡ length (row_texts rows)
tall-rows rows = length-map rows (λ (row : Vec (String Global)). row.items) ∙ sym (length-map rows texts_of)

pub map_grid-rows : (n : ℕ) (empty : List ℕ) (rows : List (Vec (String Global))) → AreWide n (row_texts rows) →
    map_grid string_bytes (grid_of (map_items rows)) ≡ (let b : Builder = record { columns = n; rows = row_texts rows; empty = empty } in table_of b)
map_grid-rows n empty [] even = refl
map_grid-rows n empty (row ∷ rows) even = rw (tall-rows (row ∷ rows), (wide-cells n (row ∷ rows) even).0, sym (row_texts-items (row ∷ rows))) refl
