-- The rows of an even store.
use Rattle.tabled_grid.proofs.Grids.{IsEven-map_grid}
use Rattle.tabled_grid.specs.Grid.{Grid, IsEven, IsInside, map_grid}
use Rattle.std.proofs.Common.{[], ◌<◌, ◌∷◌, ◌≡◌, List, arith, get_or, length, suc, zero, ℕ}
use Rattle.std.specs.List.{AllByRecursion}

wide-at : {A : Type 0} (n : ℕ) (rows : List (List A)) (i : ℕ) → AllByRecursion (λ (row : List A). length row ≡ n) rows → i < length rows → length (get_or rows i []) ≡ n
wide-at n [] i all inside = absurd (omega arith)
wide-at n (row ∷ rows) zero all inside = all.0
wide-at n (row ∷ rows) (suc i) all inside = wide-at n rows i all.1 (omega arith)

module _ {A B : Type 0} (f : A → B) (g : Grid A) (even : IsEven g) (i : ℕ) (inside : i < length (map_grid f g).cells) where
  pub stored-width : length (get_or (map_grid f g).cells i []) ≡ g.columns
  stored-width = wide-at g.columns (map_grid f g).cells i (IsEven-map_grid f g even).wide inside

  pub stored-inside : (j : ℕ) → j < length (get_or (map_grid f g).cells i []) → IsInside g (record { row = i; col = j })
  stored-inside j within = record { row = omega (arith, (IsEven-map_grid f g even).tall); col = omega (arith, stored-width) }
