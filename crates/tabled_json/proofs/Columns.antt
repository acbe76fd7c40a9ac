-- Keys and their columns.
use Rattle.std.proofs.lemmas.Slice.Eq.{bytes_eq-Decides}
use Rattle.std.specs.Prelude.{is_some}
use Rattle.std.specs.Str.{bytes_eq}
use Rattle.tabled_json.proofs.Common.{◌≡◌, ◌∷◌, ◌∙◌, ◌++◌, ◌<◌, ◌||◌, [], ℕ, suc, Bool, cond, true, false, List, None, Option, Some, refl, sym, ap, arith, get_or, length, option_map, same_Some}
use Rattle.tabled_json.specs.Tables.{find_key, is_among, with_key}

pub same-bytes : (xs ys : List ℕ) → bytes_eq xs ys ≡ true → xs ≡ ys
same-bytes xs ys e = (bytes_eq-Decides xs ys).0 e

pub bytes_eq-same : (xs : List ℕ) → bytes_eq xs xs ≡ true
bytes_eq-same xs = (bytes_eq-Decides xs xs).1 refl

pub bytes_eq-sym : (xs ys : List ℕ) → bytes_eq xs ys ≡ false → bytes_eq ys xs ≡ false
bytes_eq-sym xs ys e = of (bytes_eq ys xs) refl
  where
    of : (b : Bool) → bytes_eq ys xs ≡ b → b ≡ false
    of false f = refl
    of true f = let same = same-bytes ys xs f in let d : bytes_eq xs ys ≡ true = (bytes_eq-Decides xs ys).1 (sym same) in cc

pub first-false : (a b : Bool) → (a || b) ≡ false → a ≡ false
first-false false b e = refl
first-false true b e = e

pub second-false : (a b : Bool) → (a || b) ≡ false → b ≡ false
second-false false b e = e
second-false true b e = cc

-- ---- a key is found where it is among others

pub found-inside : (key : List ℕ) (keys : List (List ℕ)) (i : ℕ) → find_key key keys ≡ Some i → i < length keys
found-inside key [] i e = cc
found-inside key (x ∷ keys) i e = of-first (bytes_eq x key) refl (found-inside key keys)
  where
    of-rest : (o : Option ℕ) → find_key key keys ≡ o → option_map suc o ≡ Some i → ((j : ℕ) → find_key key keys ≡ Some j → j < length keys) → i < suc (length keys)
    of-rest None f g less = cc
    of-rest (Some j) f g less =
        let inside = less j f in
        let is : suc j ≡ i = same_Some (suc j) i g in
        omega arith

    of-first : (b : Bool) → bytes_eq x key ≡ b → ((j : ℕ) → find_key key keys ≡ Some j → j < length keys) → i < suc (length keys)
    of-first true f less =
        let is : 0 ≡ i = same_Some 0 i (rw f at e) in
        omega arith
    of-first false f less = of-rest (find_key key keys) refl (rw f at e) less

-- where a key is found it stands
pub found-at : (key : List ℕ) (keys : List (List ℕ)) (i : ℕ) → find_key key keys ≡ Some i → get_or keys i [] ≡ key
found-at key [] i e = cc
found-at key (x ∷ keys) i e = of-first (bytes_eq x key) refl (found-at key keys)
  where
    of-rest : (o : Option ℕ) → find_key key keys ≡ o → option_map suc o ≡ Some i → ((j : ℕ) → find_key key keys ≡ Some j → get_or keys j [] ≡ key) → get_or (x ∷ keys) i [] ≡ key
    of-rest None f g more = cc
    of-rest (Some j) f g more = ap (λ (n : ℕ). get_or (x ∷ keys) n []) (sym (same_Some (suc j) i g)) ∙ more j f

    of-first : (b : Bool) → bytes_eq x key ≡ b → ((j : ℕ) → find_key key keys ≡ Some j → get_or keys j [] ≡ key) → get_or (x ∷ keys) i [] ≡ key
    of-first true f more = ap (λ (n : ℕ). get_or (x ∷ keys) n []) (sym (same_Some 0 i (rw f at e))) ∙ same-bytes x key f
    of-first false f more = of-rest (find_key key keys) refl (rw f at e) more

no-none : (o : Option ℕ) → option_map suc o ≡ None → o ≡ None
no-none None e = refl
no-none (Some i) e = cc

pub none-among : (key : List ℕ) (keys : List (List ℕ)) → find_key key keys ≡ None → is_among key keys ≡ false
none-among key [] e = refl
none-among key (x ∷ keys) e = of-first (bytes_eq x key) refl (none-among key keys)
  where
    differ : (n : ℕ) → Some n ≡ None → ⊥
    differ n same = cc

    of-first : (b : Bool) → bytes_eq x key ≡ b → (find_key key keys ≡ None → is_among key keys ≡ false) → (bytes_eq x key || is_among key keys) ≡ false
    of-first true f more = absurd (differ 0 (rw f at e))
    of-first false f more = rw f (more (no-none (find_key key keys) (rw f at e)))

some-among : (key : List ℕ) (keys : List (List ℕ)) (i : ℕ) → find_key key keys ≡ Some i → is_among key keys ≡ true
some-among key [] i e = cc
some-among key (x ∷ keys) i e = of-first (bytes_eq x key) refl (some-among key keys)
  where
    of-rest : (o : Option ℕ) → find_key key keys ≡ o → option_map suc o ≡ Some i → ((j : ℕ) → find_key key keys ≡ Some j → is_among key keys ≡ true) → is_among key keys ≡ true
    of-rest None f g more = cc
    of-rest (Some j) f g more = more j f

    of-first : (b : Bool) → bytes_eq x key ≡ b → ((j : ℕ) → find_key key keys ≡ Some j → is_among key keys ≡ true) → (bytes_eq x key || is_among key keys) ≡ true
    of-first true f more = rw f refl
    of-first false f more = rw f (of-rest (find_key key keys) refl (rw f at e) more)

-- a key behind others that it isn't among is found there, and each other one where it was
pub find-added : (key : List ℕ) (keys : List (List ℕ)) → is_among key keys ≡ false → (other : List ℕ)
    → cond (bytes_eq key other) (Some (length keys)) (find_key other keys) ≡ find_key other (keys ++ (key ∷ []))
find-added key [] none other = refl
find-added key (x ∷ keys) none other = of-first (bytes_eq x other) refl (bytes_eq key other) refl (find-added key keys (second-false (bytes_eq x key) (is_among key keys) none) other)
  where
    contradicts : true ≡ false → ⊥
    contradicts e = cc

    of-first : (b : Bool) → bytes_eq x other ≡ b → (d : Bool) → bytes_eq key other ≡ d → cond (bytes_eq key other) (Some (length keys)) (find_key other keys) ≡ find_key other (keys ++ (key ∷ []))
        → cond (bytes_eq key other) (Some (suc (length keys))) (find_key other (x ∷ keys)) ≡ find_key other (x ∷ (keys ++ (key ∷ [])))
    of-first true f true g more =
        let same = same-bytes x other f ∙ sym (same-bytes key other g) in
        let d : bytes_eq x key ≡ true = (bytes_eq-Decides x key).1 same in
        absurd (contradicts (sym d ∙ first-false (bytes_eq x key) (is_among key keys) none))
    of-first true f false g more = rw (f, g) refl
    of-first false f true g more = let m = rw g at more in rw (f, g) (ap (option_map suc) m)
    of-first false f false g more = let m = rw g at more in rw (f, g) (ap (option_map suc) m)

pub with-known : (key : List ℕ) (keys : List (List ℕ)) (i : ℕ) → find_key key keys ≡ Some i → keys ≡ with_key keys key
with-known key keys i e = let is = some-among key keys i e in rw is refl

pub with-new : (key : List ℕ) (keys : List (List ℕ)) → find_key key keys ≡ None → keys ++ (key ∷ []) ≡ with_key keys key
with-new key keys e = let is = none-among key keys e in rw is refl

pub none-from : {A : Type 0} (o : Option A) → is_some o ≡ false → o ≡ None
none-from None e = refl
none-from (Some x) e = cc

pub option-some : {A : Type 0} (o : Option A) → is_some o ≡ true → (x : A) × (o ≡ Some x)
option-some None e = cc
option-some (Some x) e = (x, refl)
