-- Rows turned into columns: what a function gives of each member, and turned twice.
use Rattle.tabled_table.proofs.Common.{[], ◌∙◌, ◌∷◌, ◌≡◌, AreWide, Global, List, String, Vec, ap, at-transposed, length, length-transposed, map, map_items, refl, replicate, row_texts, row_texts-items, same_rows, string_bytes, subst, suc, sym, transposed_rows, wide-transposed, zero, zip, ℕ}

module _ {A B : Type 0} (f : A → B) where
  map-none : (n : ℕ) → map (map f) (replicate n []) ≡ replicate n []
  map-none zero = refl
  map-none (suc n) = ap (λ rows. [] ∷ rows) (map-none n)

  map-in_front : (row : List A) (rows : List (List A)) → map (map f) (map (λ (p : A × List A). p.0 ∷ p.1) (zip row rows)) ≡ map (λ (p : B × List B). p.0 ∷ p.1) (zip (map f row) (map (map f) rows))
  map-in_front [] rows = refl
  map-in_front (x ∷ row) [] = refl
  map-in_front (x ∷ row) (r ∷ rows) = ap (λ rs. (f x ∷ map f r) ∷ rs) (map-in_front row rows)

  pub map-transposed : (n : ℕ) (rows : List (List A)) → map (map f) (transposed_rows n rows) ≡ transposed_rows n (map (map f) rows)
  map-transposed n [] = map-none n
  map-transposed n (row ∷ rows) = map-in_front row (transposed_rows n rows) ∙ ap (λ rs. map (λ (p : B × List B). p.0 ∷ p.1) (zip (map f row) rs)) (map-transposed n rows)

pub texts_turned : (n : ℕ) (old new : List (Vec (String Global))) → map_items new ≡ transposed_rows n (map_items old) → row_texts new ≡ transposed_rows n (row_texts old)
texts_turned n old new is = row_texts-items new ∙ ap (map (map string_bytes)) is ∙ map-transposed string_bytes n (map_items old) ∙ ap (transposed_rows n) (sym (row_texts-items old))

-- turned twice, rows are as they were
pub transposed_rows-transposed_rows : {A : Type 0} (n : ℕ) (rows : List (List A)) → AreWide n rows → transposed_rows (length rows) (transposed_rows n rows) ≡ rows
transposed_rows-transposed_rows n rows even =
    let turned = transposed_rows n rows in
    let wide = wide-transposed n rows in
    same_rows (length rows) n (transposed_rows (length rows) turned) rows (length-transposed (length rows) turned wide) refl
    (subst (λ m. AreWide m (transposed_rows (length rows) turned)) (length-transposed n rows even) (wide-transposed (length rows) turned)) even
    (λ a b _ _. at-transposed (length rows) turned a b wide ∙ at-transposed n rows b a even)
