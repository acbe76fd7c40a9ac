-- Lists sifted by tests.
use Rattle.tabled_select.proofs.Common.{[], ◌&&◌, ◌||◌, ◌∙◌, ◌∷◌, ◌≡◌, AllByRecursion, Bool, List, ap, arith, cond, false, filter, length, list_any, refl, true}

module _ {X : Type 0} where
  -- a test that all pass
  pub filter_all : (test : X → Bool) → ((x : X) → test x ≡ true) → (xs : List X) → filter test xs ≡ xs
  filter_all test h [] = refl
  filter_all test h (x ∷ xs) = rw (h x) (ap (λ ys. x ∷ ys) (filter_all test h xs))

  filter-cond : (test : X → Bool) (b : Bool) (x : X) (xs : List X) → filter test (cond b (x ∷ xs) xs) ≡ cond (b && test x) (x ∷ filter test xs) (filter test xs)
  filter-cond test true x xs = refl
  filter-cond test false x xs = refl

  -- two tests, one after the other
  pub filter-filter : (outer inner : X → Bool) (xs : List X) → filter outer (filter inner xs) ≡ filter (λ x. inner x && outer x) xs
  filter-filter outer inner [] = refl
  filter-filter outer inner (x ∷ xs) = filter-cond outer (inner x) x (filter inner xs) ∙ ap (λ ys. cond (inner x && outer x) (x ∷ ys) ys) (filter-filter outer inner xs)

  -- two tests that agree on the members of a list
  pub filter-agree_within : (one other : X → Bool) (xs : List X) → AllByRecursion (λ x. one x ≡ other x) xs → filter one xs ≡ filter other xs
  filter-agree_within one other [] a = refl
  filter-agree_within one other (x ∷ xs) a = rw a.0 (ap (λ ys. cond (other x) (x ∷ ys) ys) (filter-agree_within one other xs a.1))

  all-kept : (P : X → Type 0) (b : Bool) (x : X) (xs : List X) → P x → AllByRecursion P xs → AllByRecursion P (cond b (x ∷ xs) xs)
  all-kept P true x xs p a = (p, a)
  all-kept P false x xs p a = a

  -- what all members have those that are left have
  pub all-filter : (P : X → Type 0) (test : X → Bool) (xs : List X) → AllByRecursion P xs → AllByRecursion P (filter test xs)
  all-filter P test [] a = tt
  all-filter P test (x ∷ xs) a = all-kept P (test x) x (filter test xs) a.0 (all-filter P test xs a.1)

  any-kept : (b c : Bool) (x y : X) (xs ys : List X) → cond b (x ∷ xs) xs ≡ y ∷ ys → (xs ≡ y ∷ ys → c ≡ true) → (b || c) ≡ true
  any-kept true c x y xs ys e h = refl
  any-kept false c x y xs ys e h = h e

  -- some member passes where any is left
  pub list_any-filter : (test : X → Bool) (xs : List X) (y : X) (ys : List X) → filter test xs ≡ y ∷ ys → list_any test xs ≡ true
  list_any-filter test [] y ys e = absurd (omega (arith, ap length e))
  list_any-filter test (x ∷ xs) y ys e = any-kept (test x) (list_any test xs) x y (filter test xs) ys e (list_any-filter test xs y ys)
