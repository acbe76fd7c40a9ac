-- Lists whose members all have a property, and lists edited before or after a map.
use Rattle.std.proofs.lemmas.Grind.{common_steps}
use Rattle.std.proofs.Common.{arith}
use Rattle.std.proofs.Common.{◌≡◌, ℕ, zero, suc, List, [], ◌∷◌, ◌++◌, refl, sym, ap₂, ◌∙◌, map, take, drop, get_or, set}
use Rattle.std.proofs.lemmas.List.{map-append, map-set, take-map, drop-map}
use Rattle.std.proofs.Math.ListN.{get_or-map}
use Rattle.std.specs.List.{AllByRecursion, AllZip, insert, remove, swap, zip}

module _ {A : Type 0} (P : A → Type 0) where
  pub all-append : (xs ys : List A) → AllByRecursion P xs → AllByRecursion P ys → AllByRecursion P (xs ++ ys)
  all-append [] ys a b = b
  all-append (x ∷ xs) ys a b = (a.0, all-append xs ys a.1 b)

  pub all-take : (i : ℕ) (xs : List A) → AllByRecursion P xs → AllByRecursion P (take i xs)
  all-take zero xs a = tt
  all-take (suc i) [] a = tt
  all-take (suc i) (x ∷ xs) a = (a.0, all-take i xs a.1)

  pub all-drop : (i : ℕ) (xs : List A) → AllByRecursion P xs → AllByRecursion P (drop i xs)
  all-drop zero xs a = a
  all-drop (suc i) [] a = tt
  all-drop (suc i) (x ∷ xs) a = all-drop i xs a.1

  pub all-set : (xs : List A) (i : ℕ) (x : A) → AllByRecursion P xs → P x → AllByRecursion P (set xs i x)
  all-set [] i x a p = a
  all-set (y ∷ xs) zero x a p = (p, a.1)
  all-set (y ∷ xs) (suc i) x a p = (a.0, all-set xs i x a.1 p)

  all-get_or : (xs : List A) (i : ℕ) (d : A) → AllByRecursion P xs → P d → P (get_or xs i d)
  all-get_or [] i d a p = p
  all-get_or (x ∷ xs) zero d a p = a.0
  all-get_or (x ∷ xs) (suc i) d a p = all-get_or xs i d a.1 p

  pub all-insert : (xs : List A) (i : ℕ) (x : A) → AllByRecursion P xs → P x → AllByRecursion P (insert xs i x)
  all-insert xs i x a p = all-append (take i xs) (x ∷ drop i xs) (all-take i xs a) (p, all-drop i xs a)

  pub all-remove : (xs : List A) (i : ℕ) → AllByRecursion P xs → AllByRecursion P (remove xs i)
  all-remove xs i a = all-append (take i xs) (drop (suc i) xs) (all-take i xs a) (all-drop (suc i) xs a)

  pub all-swap : (xs : List A) (i j : ℕ) → AllByRecursion P xs → AllByRecursion P (swap xs i j)
  all-swap [] i j a = a
  all-swap (x ∷ xs) i j a = all-set _ j _ (all-set (x ∷ xs) i _ a (all-get_or (x ∷ xs) j x a a.0)) (all-get_or (x ∷ xs) i x a a.0)

  pub all-zip : {B : Type 0} (xs : List A) (ys : List B) → AllByRecursion P xs → AllByRecursion (λ (p : A × B). P p.0) (zip xs ys)
  all-zip [] ys a = tt
  all-zip (x ∷ xs) [] a = tt
  all-zip (x ∷ xs) (y ∷ ys) a = (a.0, all-zip xs ys a.1)

  pub all-map : {B : Type 0} (Q : B → Type 0) (f : A → B) → ((x : A) → P x → Q (f x)) → (xs : List A) → AllByRecursion P xs → AllByRecursion Q (map f xs)
  all-map Q f h [] a = tt
  all-map Q f h (x ∷ xs) a = (h x a.0, all-map Q f h xs a.1)

-- what follows from the relation of two members and a property of the first
pub all-zip-map : {A B : Type 0} (P : A → Type 0) (R S : A → B → Type 0) → ((x : A) (y : B) → P x → R x y → S x y) → (xs : List A) (ys : List B) → AllByRecursion P xs → AllZip R xs ys → AllZip S xs ys
all-zip-map P R S f [] [] a h = tt
all-zip-map P R S f [] (y ∷ ys) a h = absurd h
all-zip-map P R S f (x ∷ xs) [] a h = absurd h
all-zip-map P R S f (x ∷ xs) (y ∷ ys) a h = (f x y a.0 h.0, all-zip-map P R S f xs ys a.1 h.1)

module _ {A B : Type 0} (f : A → B) where
  pub map-swap : (xs : List A) (i j : ℕ) → map f (swap xs i j) ≡ swap (map f xs) i j
  map-swap [] i j = refl
  map-swap (x ∷ xs) i j = grind (arith, common_steps, map-set, get_or-map)

  pub map-insert : (xs : List A) (i : ℕ) (x : A) → map f (insert xs i x) ≡ insert (map f xs) i (f x)
  map-insert xs i x = map-append f (take i xs) (x ∷ drop i xs) ∙ ap₂ (λ ys zs. ys ++ f x ∷ zs) (sym (take-map f i xs)) (sym (drop-map f i xs))

  pub map-remove : (xs : List A) (i : ℕ) → map f (remove xs i) ≡ remove (map f xs) i
  map-remove xs i = map-append f (take i xs) (drop (suc i) xs) ∙ ap₂ (λ ys zs. ys ++ zs) (sym (take-map f i xs)) (sym (drop-map f (suc i) xs))
