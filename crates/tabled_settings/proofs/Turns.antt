-- Iterators whose items are seen as those of a list, one turn further.
use Rattle.tabled_settings.proofs.Common.{[], ◌∷◌, ◌≡◌, AlwaysYields, List, None, Option, Some, ap, refl, sym}

-- what is left after a turn
pub record Turned {S A B : Type 0} (steps : S → Option A → S → Type 0) (view : A → B) (all : List B) (x : A) (t : S) : Type 0 where
  pub rest : List B
  pub is : all ≡ view x ∷ rest
  pub gives : AlwaysYields steps view t rest

pub turn : {S A B : Type 0} (steps : S → Option A → S → Type 0) (view : A → B) (s : S) (x : A) (t : S) (all : List B) → AlwaysYields steps view s all → steps s (Some x) t → Turned steps view all x t
turn steps view s x t [] g p = absurd (g x t p)
turn steps view s x t (y ∷ ys) g p = record { rest = ys; is = ap (λ z. z ∷ ys) (sym (g.1 x t p).0); gives = (g.1 x t p).1 }

pub last_at : {S A B : Type 0} (steps : S → Option A → S → Type 0) (view : A → B) (s t : S) (all : List B) → AlwaysYields steps view s all → steps s None t → all ≡ []
last_at steps view s t [] g p = refl
last_at steps view s t (y ∷ ys) g p = absurd (g.0 t p)
