-- The keys and the rows of some objects, and one more.
use Rattle.std.proofs.lemmas.List.{take_more}
use Rattle.tabled_json.proofs.Common.{◌≡◌, ◌==◌, ◌∷◌, ◌∙◌, ◌++◌, ◌+◌, ◌<◌, [], ℕ, cond, zero, suc, List, None, Some, refl, sym, ap, arith, get_or, length, map, map-append, take}
use Rattle.tabled_json.specs.Places.{column_behind}
use Rattle.std.specs.Prelude.{set}
use Rattle.tabled_json.proofs.Tabled.{row-other, row-put}
use Rattle.tabled_json.specs.Tables.{AreDistinct, find_key, row_of, with_key, with_members, with_objects}

pub map-taken : {A B : Type 0} (f : A → B) (xs : List A) (i : ℕ) (d : A) → i < length xs → map f (take (i + 1) xs) ≡ map f (take i xs) ++ (f (get_or xs i d) ∷ [])
map-taken f xs i d inside = ap (map f) (take_more xs i d inside) ∙ map-append f (take i xs) (get_or xs i d ∷ [])

members-more : (keys : List (List ℕ)) (ms : List (List ℕ × List ℕ)) (m : List ℕ × List ℕ) → with_members keys (ms ++ (m ∷ [])) ≡ with_key (with_members keys ms) m.0
members-more keys [] m = refl
members-more keys (x ∷ ms) m = members-more (with_key keys x.0) ms m

pub members-next : {A : Type 0} (f : A → List ℕ × List ℕ) (keys : List (List ℕ)) (xs : List A) (i : ℕ) (d : A) → i < length xs
    → with_key (with_members keys (map f (take i xs))) (f (get_or xs i d)).0 ≡ with_members keys (map f (take (i + 1) xs))
members-next f keys xs i d inside = sym (ap (with_members keys) (map-taken f xs i d inside) ∙ members-more keys (map f (take i xs)) (f (get_or xs i d)))

objects-more : (keys : List (List ℕ)) (os : List (List (List ℕ × List ℕ))) (o : List (List ℕ × List ℕ)) → with_objects keys (os ++ (o ∷ [])) ≡ with_members (with_objects keys os) o
objects-more keys [] o = refl
objects-more keys (x ∷ os) o = objects-more (with_members keys x) os o

pub objects-next : {A : Type 0} (f : A → List (List ℕ × List ℕ)) (keys : List (List ℕ)) (xs : List A) (i : ℕ) (d : A) → i < length xs
    → with_members (with_objects keys (map f (take i xs))) (f (get_or xs i d)) ≡ with_objects keys (map f (take (i + 1) xs))
objects-next f keys xs i d inside = sym (ap (with_objects keys) (map-taken f xs i d inside) ∙ objects-more keys (map f (take i xs)) (f (get_or xs i d)))

pub column-more : (column : ℕ) (xs : List ℕ) (b : ℕ) → column_behind column (xs ++ (b ∷ [])) ≡ cond (b == 10) 1 (column_behind column xs + 1)
column-more column [] b = refl
column-more column (x ∷ xs) b = column-more (cond (x == 10) 1 (column + 1)) xs b

pub column-next : (column : ℕ) (xs : List ℕ) (i : ℕ) → i < length xs → cond (get_or xs i 0 == 10) 1 (column_behind column (take i xs) + 1) ≡ column_behind column (take (i + 1) xs)
column-next column xs i inside = sym (ap (column_behind column) (take_more xs i 0 inside) ∙ column-more column (take i xs) (get_or xs i 0))

-- an empty text is put for each key
pub one-text-more : {A : Type 0} (f : A → List ℕ) (xs : List A) (i : ℕ) → i < length xs → row_of (map f (take i xs)) [] ++ ([] ∷ []) ≡ row_of (map f (take (i + 1) xs)) []
one-text-more f [] i inside = absurd (omega arith)
one-text-more f (x ∷ xs) zero inside = refl
one-text-more f (x ∷ xs) (suc i) inside =
    let next : suc i + 1 ≡ suc (i + 1) = omega arith in
    rw next (ap (λ (l : List (List ℕ)). [] ∷ l) (one-text-more f xs i (omega arith)))

-- a member's text is put into its column, or into none
module _ {A : Type 0} (f : A → List ℕ × List ℕ) (keys : List (List ℕ)) (xs : List A) (i : ℕ) (d : A) (inside : i < length xs) (row : List (List ℕ)) (is : row ≡ row_of keys (map f (take i xs))) where
  pub put-next : AreDistinct keys → (c : ℕ) → find_key (f (get_or xs i d)).0 keys ≡ Some c → set row c (f (get_or xs i d)).1 ≡ row_of keys (map f (take (i + 1) xs))
  put-next distinct c found =
      ap (λ (l : List (List ℕ)). set l c (f (get_or xs i d)).1) is ∙ row-put keys (map f (take i xs)) (f (get_or xs i d)) c distinct found ∙ ap (row_of keys) (sym (map-taken f xs i d inside))

  pub skip-next : find_key (f (get_or xs i d)).0 keys ≡ None → row ≡ row_of keys (map f (take (i + 1) xs))
  skip-next none = is ∙ row-other keys (map f (take i xs)) (f (get_or xs i d)) none ∙ ap (row_of keys) (sym (map-taken f xs i d inside))
