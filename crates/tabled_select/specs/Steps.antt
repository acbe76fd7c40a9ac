-- Lists thinned out.
use Rattle.std.specs.Prelude.{◌≡◌, ℕ, zero, suc, ◌%◌, Bool, ◌==◌, if◌then◌else◌, List, [], ◌∷◌, map}
use Rattle.std.specs.List.{enumerate_from, filter}

-- the members at the places 0, n, 2n and so on, and none where n is 0
abbrev pub every : {A : Type 0} → ℕ → List A → List A
every zero xs = []
every (suc n) xs = map (λ p. p.1) (filter (λ p. p.0 % suc n == 0) (enumerate_from 0 xs))

-- the members to which the answer was yes, each asked for once and in order
abbrev pub Filters : {A : Type 0} → (A → Bool → Type 0) → List A → List A → Type 0
Filters answers [] kept = kept ≡ []
Filters {A} answers (x ∷ xs) kept = (yes : Bool) × (rest : List A) × answers x yes × Filters answers xs rest × (kept ≡ (if yes then x ∷ rest else rest))
