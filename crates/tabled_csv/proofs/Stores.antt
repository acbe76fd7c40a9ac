-- Each row of a store with a column has a field.
use Rattle.tabled_grid.proofs.Grids.{IsEven-map_grid}
use Rattle.tabled_grid.specs.Grid.{Grid, IsEven, map_grid}
use Rattle.tabled_csv.proofs.Common.{[], ◌<◌, ◌∷◌, ◌≡◌, AllByRecursion, HaveFields, List, arith, false, is_none, length, refl, ℕ}

each-some : {A : Type 0} (n : ℕ) (rows : List (List A)) → 0 < n → AllByRecursion (λ (row : List A). length row ≡ n) rows → AllByRecursion (λ (row : List A). is_none row ≡ false) rows
each-some n [] some all = tt
each-some n ([] ∷ rows) some all = let e = all.0 in absurd (omega arith)
each-some n ((x ∷ row) ∷ rows) some all = (refl, each-some n rows some all.1)

pub have-fields : {A : Type 0} (f : A → List ℕ) (g : Grid A) → IsEven g → 0 < g.columns → HaveFields (map_grid f g).cells
have-fields f g even some = each-some g.columns (map_grid f g).cells some (IsEven-map_grid f g even).wide
