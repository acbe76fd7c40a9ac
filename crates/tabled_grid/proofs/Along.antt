-- Changes of each of several lists.
use Rattle.tabled_grid.proofs.Common.{[], ◌∷◌, ◌≡◌, AllByRecursion, List, ap, ap₂, length, map, refl, ℕ}

-- changes that agree on lists so long agree on lists of such lists
pub each_agrees : {A : Type 0} (n : ℕ) (f k : List A → List A) → ((xs : List A) → length xs ≡ n → f xs ≡ k xs) → (rows : List (List A)) → AllByRecursion (λ (row : List A). length row ≡ n) rows → map f rows ≡ map k rows
each_agrees n f k e [] a = refl
each_agrees n f k e (row ∷ rows) a = ap₂ (λ r rs. r ∷ rs) (e row a.0) (each_agrees n f k e rows a.1)

pub each_after : {A : Type 0} (f k : List A → List A) (rows : List (List A)) → map f (map k rows) ≡ map (λ row. f (k row)) rows
each_after f k [] = refl
each_after f k (row ∷ rows) = ap (λ rs. f (k row) ∷ rs) (each_after f k rows)

pub each_same : {A : Type 0} (f k : List A → List A) → ((xs : List A) → f xs ≡ k xs) → (rows : List (List A)) → map f rows ≡ map k rows
each_same f k e [] = refl
each_same f k e (row ∷ rows) = ap₂ (λ r rs. r ∷ rs) (e row) (each_same f k e rows)
