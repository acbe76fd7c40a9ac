-- Iterators that give all items of a list, one turn further.
use Rattle.tabled_options.proofs.Common.{[], ◌∷◌, ◌≡◌, AlwaysYields, List, None, Option, Some, ap, refl, sym}

-- what is left after a turn
pub record Turned {S A : Type 0} (steps : S → Option A → S → Type 0) (all : List A) (x : A) (t : S) : Type 0 where
  pub rest : List A
  pub is : all ≡ x ∷ rest
  pub gives : AlwaysYields steps (λ (y : A). y) t rest

pub turn : {S A : Type 0} (steps : S → Option A → S → Type 0) (s : S) (x : A) (t : S) (all : List A) → AlwaysYields steps (λ (y : A). y) s all → steps s (Some x) t → Turned steps all x t
turn steps s x t [] g p = absurd (g x t p)
turn steps s x t (y ∷ ys) g p = record { rest = ys; is = ap (λ z. z ∷ ys) (sym (g.1 x t p).0); gives = (g.1 x t p).1 }

pub last_at : {S A : Type 0} (steps : S → Option A → S → Type 0) (s t : S) (all : List A) → AlwaysYields steps (λ (y : A). y) s all → steps s None t → all ≡ []
last_at steps s t [] g p = refl
last_at steps s t (y ∷ ys) g p = absurd (g.0 t p)

pub last : {S A : Type 0} (steps : S → Option A → S → Type 0) (s t : S) (r : Option A) (all : List A) → AlwaysYields steps (λ (y : A). y) s all → steps s r t → ((x : A) → r ≡ Some x → ⊥) → all ≡ []
last steps s t None all g p never = last_at steps s t all g p
last steps s t (Some x) all g p never = absurd (never x refl)
