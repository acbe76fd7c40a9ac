-- Lists whose members a loop changes in place, one after another, seen through a function.
use Rattle.std.proofs.lemmas.Grind.{common_steps}
use Rattle.std.proofs.Common.{◌≡◌, ℕ, ◌+◌, ◌<◌, ◌≤◌, List, [], ◌∷◌, ◌++◌, refl, ap, ap₂, sym, ◌∙◌, map, take, drop, set, get_or, length, arith}
use Rattle.std.proofs.lemmas.List.{append-nil, append_assoc, drop-drop, drop-set-lt, drop_all, drop_more, map_push, take_all, take_more_set}
use Rattle.tabled_grid.proofs.RowByRow.{first_left}

-- what is true of those from i on is true of those after the next
pub rest_after : {A : Type 0} (old new : List A) (i : ℕ) → drop i new ≡ drop i old → drop (i + 1) new ≡ drop (i + 1) old
rest_after old new i rest = sym (drop-drop 1 i new) ∙ ap (drop 1) rest ∙ drop-drop 1 i old

pub rest_more : {A : Type 0} (old new : List A) (i : ℕ) (y : A) → drop i new ≡ drop i old → drop (i + 1) (set new i y) ≡ drop (i + 1) old
rest_more old new i y rest = drop-set-lt (i + 1) new i y (omega arith) ∙ rest_after old new i rest

-- the next one is still as it was
pub rest_next : {A : Type 0} (old new : List A) (i : ℕ) (d : A) → drop i new ≡ drop i old → get_or new i d ≡ get_or old i d
rest_next old new i d rest = sym (first_left new i d) ∙ ap (λ xs. get_or xs 0 d) rest ∙ first_left old i d

module _ {A B : Type 0} (f : A → B) where
  -- the first i are seen through f, and the others as what they will be: one more of them, and all
  pub one_more : (left more : List A → List B) (xs : List A) (i : ℕ) (d y : A) → i < length xs → left (get_or xs i d ∷ drop (i + 1) xs) ≡ f y ∷ more (drop (i + 1) xs) →
      map f (take (i + 1) (set xs i y)) ++ more (drop (i + 1) (set xs i y)) ≡ map f (take i xs) ++ left (drop i xs)
  one_more left more xs i d y inside next = grind (arith, common_steps, take_more_set, drop-set-lt, map_push, append_assoc, drop_more)

  pub all_done : (left : List A → List B) (xs : List A) (i : ℕ) → length xs ≤ i → left [] ≡ [] → map f (take i xs) ++ left (drop i xs) ≡ map f xs
  all_done left xs i past none = ap₂ (λ front rest. map f front ++ left rest) (take_all i xs past) (drop_all i xs past) ∙ ap (λ rest. map f xs ++ rest) none ∙ append-nil (map f xs)

-- the first i were changed by h, so that all will be what h makes of the old ones
pub record ChangedBy {A B : Type 0} (f : A → B) (h : B → B) (old new : List A) (i : ℕ) : Type 0 where
  pub is : map f (take i new) ++ map h (map f (drop i new)) ≡ map h (map f old)

module _ {A B : Type 0} (f : A → B) (h : B → B) where
  pub changed_more : (old new : List A) (i : ℕ) (d y : A) → i < length new → ChangedBy f h old new i → f y ≡ h (f (get_or new i d)) → ChangedBy f h old (set new i y) (i + 1)
  changed_more old new i d y inside before written = record { is = one_more f (λ xs. map h (map f xs)) (λ xs. map h (map f xs)) new i d y inside (ap (λ z. z ∷ map h (map f (drop (i + 1) new))) (sym written)) ∙ before.is }

  pub changed_all : (old new : List A) (i : ℕ) → length new ≤ i → ChangedBy f h old new i → map f new ≡ map h (map f old)
  changed_all old new i past all = sym (all_done f (λ xs. map h (map f xs)) new i past refl) ∙ all.is
