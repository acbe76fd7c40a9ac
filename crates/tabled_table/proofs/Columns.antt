-- Rows of one length.
use Rattle.std.proofs.Common.{◌≡◌, ℕ, ◌+◌, ◌-◌, ◌<◌, ◌≤◌, List, [], ◌∷◌, refl, ap, ap₂, ◌∙◌, map, length, arith}
use Rattle.std.specs.List.{AllZip, insert, remove, zip}
use Rattle.std.proofs.lemmas.List.Edits.{length-insert, length-remove}
use Rattle.tabled_grid.specs.Evenness.{AreWide}
use Rattle.tabled_grid.proofs.Lists.{all-map, all-zip}
use Rattle.tabled_table.specs.Builder.{with_items}

-- rows of one length are one longer with their items
pub even-with_items : {B : Type 0} (n j : ℕ) (rows : List (List B)) (items : List B) → j ≤ n → AreWide n rows → AreWide (n + 1) (with_items j rows items)
even-with_items {B} n j rows items within even =
    all-map (λ (p : List B × B). length p.0 ≡ n) (λ row. length row ≡ n + 1) (λ p. insert p.0 j p.1)
    (λ p e. length-insert p.0 j p.1 (omega arith) ∙ ap (λ m. m + 1) e) (zip rows items) (all-zip (λ (row : List B). length row ≡ n) rows items even)

-- rows of one length are one shorter without a member
pub even-without : {B : Type 0} (n j : ℕ) (rows : List (List B)) → j < n → AreWide n rows → AreWide (n - 1) (map (λ row. remove row j) rows)
even-without {B} n j rows within even =
    all-map (λ (row : List B). length row ≡ n) (λ (row : List B). length row ≡ n - 1) (λ row. remove row j)
    (λ row e. let less : length (remove row j) + 1 ≡ length row = length-remove row j (omega arith) in omega arith) rows even

-- what changes no row of one length changes none of them
pub map-even : {B : Type 0} (n : ℕ) (f : List B → List B) → ((row : List B) → length row ≡ n → f row ≡ row) → (rows : List (List B)) → AreWide n rows → map f rows ≡ rows
map-even n f same [] even = refl
map-even n f same (row ∷ rows) even = ap₂ (λ r rs. r ∷ rs) (same row even.0) (map-even n f same rows even.1)

-- rows of which each stands for a member
pub even-each : {A B : Type 0} (n : ℕ) (R : A → List B → Type 0) → ((x : A) (row : List B) → R x row → length row ≡ n) → (xs : List A) (rows : List (List B)) → AllZip R xs rows → AreWide n rows
even-each n R h [] [] z = tt
even-each n R h [] (row ∷ rows) z = absurd z
even-each n R h (x ∷ xs) [] z = absurd z
even-each n R h (x ∷ xs) (row ∷ rows) z = (h x row z.0, even-each n R h xs rows z.1)
