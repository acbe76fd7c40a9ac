-- Indexes in order: there is one list of the same indexes that is.
use Rattle.std.proofs.Common.{◌≡◌, ℕ, ◌+◌, ◌<◌, ◌≤◌, Bool, true, false, cond, List, [], ◌∷◌, length, get_or, refl, ap, sym, ◌∙◌, subst, arith, zero, suc, ◌==◌, zero-lt-suc, ⊎_elim, inl, inr, ◌⊎◌, IsPermutation}
use Rattle.std.proofs.lemmas.Bool.{cases_Bool, cases_eq}
use Rattle.std.proofs.lemmas.Bool.Decides.{nat_tests}
use Rattle.std.proofs.lemmas.List.Recursion.{is_count_by}
use Rattle.std.proofs.lemmas.List.Sorted.{sorted_far, sum_by-IsPermutation}
use Rattle.std.specs.Cmp.{IsStrictWeakOrder}
use Rattle.std.specs.List.Sorted.{IsSortedBy}
use Rattle.tabled_settings.specs.InOrder.{in_order, put_in}

-- how often an index stands in a list
abbrev pub times : ℕ → List ℕ → ℕ
times k [] = 0
times k (x ∷ xs) = cond (k == x) (1 + times k xs) (times k xs)

pub permutation-times : (xs ys : List ℕ) → IsPermutation xs ys → (k : ℕ) → times k ys ≡ times k xs
permutation-times xs ys p k =
    is_count_by (times k) (λ x. k == x) refl (λ x xs. refl) ys ∙ sum_by-IsPermutation (λ x. cond (k == x) 1 0) xs ys p ∙ sym (is_count_by (times k) (λ x. k == x) refl (λ x xs. refl) xs)

same : (k x : ℕ) → k ≡ x → (k == x) ≡ true
same k x e = grind (arith, nat_tests)

other : (k x : ℕ) → (k ≡ x → ⊥) → (k == x) ≡ false
other k x h = grind (arith, nat_tests)

pub times-first : (k x : ℕ) (xs : List ℕ) → k ≡ x → times k (x ∷ xs) ≡ 1 + times k xs
times-first k x xs e = ap (λ (b : Bool). cond b (1 + times k xs) (times k xs)) (same k x e)

pub times-rest : (k x : ℕ) (xs : List ℕ) → (k ≡ x → ⊥) → times k (x ∷ xs) ≡ times k xs
times-rest k x xs h = ap (λ (b : Bool). cond b (1 + times k xs) (times k xs)) (other k x h)

-- the first index, or one of the rest
pub first-or-rest : (k x : ℕ) (xs : List ℕ) → 0 < times k (x ∷ xs) → (k ≡ x) ⊎ (0 < times k xs)
first-or-rest k x xs h = ⊎_elim (λ (e : k ≡ x). inl e) (λ (n : k ≡ x → ⊥). inr (subst (λ (m : ℕ). 0 < m) (times-rest k x xs n) h)) (cases_eq k x)

times-same-rest : (k x : ℕ) (xs ys : List ℕ) → times k xs ≡ times k ys → times k (x ∷ xs) ≡ times k (x ∷ ys)
times-same-rest k x xs ys e = ap (λ (n : ℕ). cond (k == x) (1 + n) n) e

swapped : (a b : Bool) (n : ℕ) → cond a (1 + cond b (1 + n) n) (cond b (1 + n) n) ≡ cond b (1 + cond a (1 + n) n) (cond a (1 + n) n)
swapped true true n = refl
swapped true false n = refl
swapped false true n = refl
swapped false false n = refl

pub put_in-yes : (before : ℕ → ℕ → Bool) (i j : ℕ) (js : List ℕ) → before i j ≡ true → put_in before i (j ∷ js) ≡ i ∷ j ∷ js
put_in-yes before i j js first = rw first refl

pub put_in-no : (before : ℕ → ℕ → Bool) (i j : ℕ) (js : List ℕ) → before i j ≡ false → put_in before i (j ∷ js) ≡ j ∷ put_in before i js
put_in-no before i j js later = rw later refl

-- putting an index in counts it, and nothing else
times-put_in : (before : ℕ → ℕ → Bool) (k i : ℕ) (js : List ℕ) → times k (put_in before i js) ≡ times k (i ∷ js)
times-put_in before k i [] = refl
times-put_in before k i (j ∷ js) = ⊎_elim
    (λ (first : before i j ≡ true). ap (times k) (put_in-yes before i j js first))
    (λ (later : before i j ≡ false). ap (times k) (put_in-no before i j js later) ∙ times-same-rest k j (put_in before i js) (i ∷ js) (times-put_in before k i js) ∙ swapped (k == j) (k == i) (times k js))
    (cases_Bool (before i j))

pub times-in_order : (before : ℕ → ℕ → Bool) (k : ℕ) (is : List ℕ) → times k (in_order before is) ≡ times k is
times-in_order before k [] = refl
times-in_order before k (i ∷ is) = times-put_in before k i (in_order before is) ∙ times-same-rest k i (in_order before is) is (times-in_order before k is)

-- later index of a list comes before this one
pub record IsLeast (before : ℕ → ℕ → Bool) (x : ℕ) (xs : List ℕ) : Type 0 where
  pub least : (k : ℕ) → 0 < times k xs → before k x ≡ false

-- each index is the least of those from it on
abbrev pub IsOrdered : (ℕ → ℕ → Bool) → List ℕ → Type 0
IsOrdered before [] = Unit {0}
IsOrdered before (x ∷ xs) = IsLeast before x xs × IsOrdered before xs

put_in-ordered : (before : ℕ → ℕ → Bool) → IsStrictWeakOrder before → (i : ℕ) (js : List ℕ) → IsOrdered before js → IsOrdered before (put_in before i js)
put_in-ordered before o i [] ordered = (record { least = λ k h. absurd (omega arith) }, tt)
put_in-ordered before o i (j ∷ js) ordered = ⊎_elim
    (λ (first : before i j ≡ true). subst (IsOrdered before) (sym (put_in-yes before i j js first)) (
      record {
        least = λ k h. ⊎_elim
            (λ (e : k ≡ j). subst (λ (m : ℕ). before m i ≡ false) (sym e) (o.one_way i j first))
            (λ (in_rest : 0 < times k js). o.chain k j i (ordered.0.least k in_rest) (o.one_way i j first))
            (first-or-rest k j js h);
      },
      ordered,
    ))
    (λ (later : before i j ≡ false). subst (IsOrdered before) (sym (put_in-no before i j js later)) (
      record {
        least = λ k h. ⊎_elim
            (λ (e : k ≡ i). subst (λ (m : ℕ). before m j ≡ false) (sym e) later)
            (λ (in_rest : 0 < times k js). ordered.0.least k in_rest)
            (first-or-rest k i js (subst (λ (m : ℕ). 0 < m) (times-put_in before k i js) h));
      },
      put_in-ordered before o i js ordered.1,
    ))
    (cases_Bool (before i j))

pub in_order-ordered : (before : ℕ → ℕ → Bool) → IsStrictWeakOrder before → (is : List ℕ) → IsOrdered before (in_order before is)
in_order-ordered before o [] = tt
in_order-ordered before o (i ∷ is) = put_in-ordered before o i (in_order before is) (in_order-ordered before o is)

not-before-itself : (before : ℕ → ℕ → Bool) → IsStrictWeakOrder before → (x : ℕ) → before x x ≡ false
not-before-itself before o x = ⊎_elim (λ (first : before x x ≡ true). o.one_way x x first) (λ (later : before x x ≡ false). later) (cases_Bool (before x x))

least-of-all : (before : ℕ → ℕ → Bool) → IsStrictWeakOrder before → (k x : ℕ) (xs : List ℕ) → IsLeast before x xs → 0 < times k (x ∷ xs) → before k x ≡ false
least-of-all before o k x xs least h = ⊎_elim (λ (e : k ≡ x). subst (λ (m : ℕ). before m x ≡ false) (sym e) (not-before-itself before o x)) (λ (in_rest : 0 < times k xs). least.least k in_rest) (first-or-rest k x xs h)

cancelled : (b : Bool) (m n : ℕ) → cond b (1 + m) m ≡ cond b (1 + n) n → m ≡ n
cancelled true m n e = omega arith
cancelled false m n e = e

there : (x : ℕ) (xs : List ℕ) → 0 < times x (x ∷ xs)
there x xs = subst (λ (m : ℕ). 0 < m) (sym (times-first x x xs refl)) (omega arith)

-- one list of the same indexes is in order
pub one-ordered : (before : ℕ → ℕ → Bool) → IsStrictWeakOrder before → ((x y : ℕ) → before x y ≡ false → before y x ≡ false → x ≡ y)
    → (ys zs : List ℕ) → ((k : ℕ) → times k ys ≡ times k zs) → IsOrdered before ys → IsOrdered before zs → ys ≡ zs
one-ordered before o ties [] [] same_times g h = refl
one-ordered before o ties [] (z ∷ zs) same_times g h = absurd (let some : 0 < times z (z ∷ zs) = there z zs in let none : 0 ≡ times z (z ∷ zs) = same_times z in omega arith)
one-ordered before o ties (y ∷ ys) [] same_times g h = absurd (let some : 0 < times y (y ∷ ys) = there y ys in let none : times y (y ∷ ys) ≡ 0 = same_times y in omega arith)
one-ordered before o ties (y ∷ ys) (z ∷ zs) same_times g h =
    let e : y ≡ z = ties y z
    (least-of-all before o y z zs h.0 (subst (λ (m : ℕ). 0 < m) (same_times y) (there y ys)))
    (least-of-all before o z y ys g.0 (subst (λ (m : ℕ). 0 < m) (sym (same_times z)) (there z zs))) in
    let rest : ys ≡ zs = one-ordered before o ties ys zs (λ k. cancelled (k == z) (times k ys) (times k zs) (subst (λ (m : ℕ). times k (m ∷ ys) ≡ times k (z ∷ zs)) e (same_times k))) g.1 h.1 in
    ap (λ (l : List ℕ). y ∷ l) rest ∙ ap (λ (m : ℕ). m ∷ zs) e

-- where an index stands that a list has
at-index : (k : ℕ) (xs : List ℕ) → 0 < times k xs → (j : ℕ) × (j < length xs) × (get_or xs j 0 ≡ k)
at-index k [] h = absurd (omega arith)
at-index k (x ∷ xs) h = ⊎_elim
    (λ (e : k ≡ x). (0, zero-lt-suc (length xs), sym e))
    (λ (in_rest : 0 < times k xs). let found : (j : ℕ) × (j < length xs) × (get_or xs j 0 ≡ k) = at-index k xs in_rest in (suc found.0, omega (arith, found.1), found.2))
    (first-or-rest k x xs h)

cond-more : (b : Bool) (n : ℕ) → n ≤ cond b (1 + n) n
cond-more true n = omega arith
cond-more false n = omega arith

pub in-list : (xs : List ℕ) (j : ℕ) → j < length xs → 0 < times (get_or xs j 0) xs
in-list [] j h = absurd (omega arith)
in-list (x ∷ xs) zero h = there x xs
in-list (x ∷ xs) (suc j) h = let rest : 0 < times (get_or xs j 0) xs = in-list xs j (omega arith) in
    let more : times (get_or xs j 0) xs ≤ times (get_or xs j 0) (x ∷ xs) = cond-more (get_or xs j 0 == x) (times (get_or xs j 0) xs) in
    omega arith

sorted-rest : (before : ℕ → ℕ → Bool) (x : ℕ) (xs : List ℕ) → IsSortedBy before (x ∷ xs) → IsSortedBy before xs
sorted-rest before x xs up = λ k d low h. let at : before (get_or (x ∷ xs) (suc k + 1) d) (get_or xs k d) ≡ false = up (suc k) d (omega arith) (omega arith) in
    let e : suc k + 1 ≡ suc (k + 1) = omega arith in
    subst (λ (m : ℕ). before (get_or (x ∷ xs) m d) (get_or xs k d) ≡ false) e at

pub sorted-ordered : (before : ℕ → ℕ → Bool) → IsStrictWeakOrder before → (xs : List ℕ) → IsSortedBy before xs → IsOrdered before xs
sorted-ordered before o [] up = tt
sorted-ordered before o (x ∷ xs) up = (
  record {
    least = λ k h.
        let found : (j : ℕ) × (j < length xs) × (get_or xs j 0 ≡ k) = at-index k xs h in
        subst (λ (m : ℕ). before m x ≡ false) found.2 (sorted_far before o (x ∷ xs) up 0 (suc found.0) 0 (omega arith) (omega (arith, found.1)));
  },
  sorted-ordered before o xs (sorted-rest before x xs up),
)
