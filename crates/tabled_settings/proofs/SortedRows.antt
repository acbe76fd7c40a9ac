-- Rows in order, by an order of them.
use Rattle.std.proofs.Common.{◌≡◌, ℕ, ◌+◌, ◌-◌, ◌<◌, ◌≤◌, Bool, true, false, cond, List, [], ◌∷◌, ◌++◌, length, get_or, refl, ap, sym, ◌∙◌, subst, arith, true≢false, zero, suc, ◌==◌, ⊎_elim, IsPermutation, nat_cmp, min, Bor, append-nil, get_or-append-add}
use Rattle.std.proofs.lemmas.Bool.{cases_Bool, cases_eq, cases_lt}
use Rattle.std.proofs.lemmas.Bool.Decides.{nat_tests}
use Rattle.std.proofs.lemmas.Cmp.{nat_cmp_total, ranked, then_total}
use Rattle.std.proofs.lemmas.Fn.{always_returns_same}
use Rattle.std.proofs.lemmas.List.Sorted.{IsPermutation-append_right, IsPermutation-cons, IsPermutation-middle, IsPermutation-refl, IsPermutation-trans, length_permutation, ranks_by}
use Rattle.std.proofs.lemmas.List.FromFn.{get_or-range_with_len, length-range_with_len}
use Rattle.std.specs.Cmp.{IsStrictWeakOrder, IsTotalOrder}
use Rattle.std.specs.Fn.{Called, ComparesAs}
use Rattle.std.specs.List.{range_with_len}
use Rattle.std.specs.List.Sorted.{IsSortedBy}
use Rattle.std.specs.Ordering.{is_gt, is_lt, ordering_reverse, ordering_then}
use Rattle.std.specs.declared.cmp.Ordering.{Ordering}
use Rattle.std.specs.declared.cmp.Ordering.TheVariants.{Equal, Greater, Less}
use denote.Param.Members.{Mut}
use Rattle.tabled_settings.proofs.OneOrder.{IsOrdered, put_in-no, put_in-yes, in-list, in_order-ordered, one-ordered, permutation-times, sorted-ordered, times, times-first, times-in_order, times-rest}
use Rattle.tabled_settings.specs.Arranged.{AreDistinct}
use Rattle.tabled_settings.specs.InOrder.{AreSorted, comes_before, in_order, put_in, sorted_from}

pub before-ranks : (cmp : ℕ → ℕ → Ordering) → IsTotalOrder cmp → IsStrictWeakOrder (comes_before cmp)
before-ranks cmp o = ranks_by (then_total o nat_cmp_total) (λ (i : ℕ). i)

neither : (a b : Ordering) → a ≡ ordering_reverse b → is_lt a ≡ false → is_lt b ≡ false → a ≡ Equal
neither Less b e g h = absurd (true≢false g)
neither Equal b e g h = refl
neither Greater Less e g h = absurd (true≢false h)
neither Greater Equal e g h = cc
neither Greater Greater e g h = cc

rest-equal : (a b : Ordering) → ordering_then a b ≡ Equal → b ≡ Equal
rest-equal Less b e = cc
rest-equal Equal b e = e
rest-equal Greater b e = cc

before-ties : (cmp : ℕ → ℕ → Ordering) → IsTotalOrder cmp → (i j : ℕ) → comes_before cmp i j ≡ false → comes_before cmp j i ≡ false → i ≡ j
before-ties cmp o i j g h = ranked i j Equal (sym (rest-equal (cmp i j) (nat_cmp i j)
    (neither (ordering_then (cmp i j) (nat_cmp i j)) (ordering_then (cmp j i) (nat_cmp j i)) ((then_total o nat_cmp_total).antisymm i j) g h)))

-- what is sorted by such an order is in order
pub sorted-in-order : (cmp : ℕ → ℕ → Ordering) → IsTotalOrder cmp → (xs ys : List ℕ) → IsPermutation xs ys → IsSortedBy (comes_before cmp) ys → ys ≡ in_order (comes_before cmp) xs
sorted-in-order cmp o xs ys p up = let ranks : IsStrictWeakOrder (comes_before cmp) = before-ranks cmp o in
    one-ordered (comes_before cmp) ranks (before-ties cmp o) ys (in_order (comes_before cmp) xs)
    (λ k. permutation-times xs ys p k ∙ sym (times-in_order (comes_before cmp) k xs))
    (sorted-ordered (comes_before cmp) ranks ys up) (in_order-ordered (comes_before cmp) ranks xs)

-- and so is what is sorted by a closure that compares by such an order, and then by the indexes themselves
pub sorted-by-closure : {F : Type 0} {g : Mut F (Bor ℕ × (Bor ℕ × Unit {0})) Ordering} {f : F} (cmp : ℕ → ℕ → Ordering) → IsTotalOrder cmp → (xs ys : List ℕ) → IsPermutation xs ys
    → ((lt : ℕ → ℕ → Bool) → IsStrictWeakOrder lt → ComparesAs g lt f → IsSortedBy lt ys)
    → ((a : Bor ℕ × (Bor ℕ × Unit {0})) (r : Ordering) (f' : F) → Called g f a r f' → (r ≡ ordering_then (cmp a.0.now a.1.0.now) (nat_cmp a.0.now a.1.0.now)) × (f' ≡ f))
    → ys ≡ in_order (comes_before cmp) xs
sorted-by-closure {g = g} {f = f} cmp o xs ys p up says = sorted-in-order cmp o xs ys p (up (comes_before cmp) (before-ranks cmp o)
    (always_returns_same g (λ a r. is_lt r ≡ comes_before cmp a.0.now a.1.0.now) f (λ a r f' called. (ap is_lt (says a r f' called).0, (says a r f' called).1))))

times-append : (k : ℕ) (xs ys : List ℕ) → times k (xs ++ ys) ≡ times k xs + times k ys
times-append k [] ys = omega arith
times-append k (x ∷ xs) ys = summed (k == x) (times k xs) (times k ys) (times k (xs ++ ys)) (times-append k xs ys)
  where
    summed : (b : Bool) (m n s : ℕ) → s ≡ m + n → cond b (1 + s) s ≡ cond b (1 + m) m + n
    summed true m n s e = omega arith
    summed false m n s e = omega arith

times-range : (k a m : ℕ) → (times k (range_with_len a m) ≤ 1) × (0 < times k (range_with_len a m) → (a ≤ k) × (k < a + m))
times-range k a zero = (omega arith, λ h. absurd (omega arith))
times-range k a (suc m) = let rest : (times k (range_with_len (a + 1) m) ≤ 1) × (0 < times k (range_with_len (a + 1) m) → (a + 1 ≤ k) × (k < a + 1 + m)) = times-range k (a + 1) m in ⊎_elim
    (λ (e : k ≡ a). let first : times k (range_with_len a (suc m)) ≡ 1 + times k (range_with_len (a + 1) m) = times-first k a (range_with_len (a + 1) m) e in
    let none : times k (range_with_len (a + 1) m) ≤ 0 = ⊎_elim (λ (s : 0 < times k (range_with_len (a + 1) m)). absurd (omega (arith, (rest.1 s).0))) (λ (z : times k (range_with_len (a + 1) m) ≤ 0). z) (cases_lt 0 (times k (range_with_len (a + 1) m))) in
    (omega arith, λ h. (omega arith, omega arith)))
    (λ (n : k ≡ a → ⊥). let same : times k (range_with_len a (suc m)) ≡ times k (range_with_len (a + 1) m) = times-rest k a (range_with_len (a + 1) m) n in
    (omega (arith, rest.0), λ h. let within : (a + 1 ≤ k) × (k < a + 1 + m) = rest.1 (omega arith) in (omega (arith, within.0), omega (arith, within.1))))
    (cases_eq k a)

apart : (xs : List ℕ) → ((k : ℕ) → times k xs ≤ 1) → (i j : ℕ) → i < length xs → j < length xs → get_or xs i 0 ≡ get_or xs j 0 → i ≡ j
apart [] once i j g h e = absurd (omega arith)
apart (x ∷ xs) once zero zero g h e = refl
apart (x ∷ xs) once zero (suc j) g h e = absurd (twice x xs j (omega arith) e (once x))
  where
    twice : (x : ℕ) (xs : List ℕ) (j : ℕ) → j < length xs → x ≡ get_or xs j 0 → times x (x ∷ xs) ≤ 1 → ⊥
    twice x xs j h e most = let here : times x (x ∷ xs) ≡ 1 + times x xs = times-first x x xs refl in
        let there : 0 < times x xs = subst (λ (m : ℕ). 0 < times m xs) (sym e) (in-list xs j h) in omega arith
apart (x ∷ xs) once (suc i) zero g h e = absurd (twice x xs i (omega arith) (sym e) (once x))
  where
    twice : (x : ℕ) (xs : List ℕ) (j : ℕ) → j < length xs → x ≡ get_or xs j 0 → times x (x ∷ xs) ≤ 1 → ⊥
    twice x xs j h e most = let here : times x (x ∷ xs) ≡ 1 + times x xs = times-first x x xs refl in
        let there : 0 < times x xs = subst (λ (m : ℕ). 0 < times m xs) (sym e) (in-list xs j h) in omega arith
apart (x ∷ xs) once (suc i) (suc j) g h e = ap suc (apart xs (λ k. fewer k) i j (omega arith) (omega arith) e)
  where
    more : (b : Bool) (n : ℕ) → n ≤ cond b (1 + n) n
    more true n = omega arith
    more false n = omega arith

    fewer : (k : ℕ) → times k xs ≤ 1
    fewer k = let a : times k (x ∷ xs) ≤ 1 = once k in let b : times k xs ≤ times k (x ∷ xs) = more (k == x) (times k xs) in omega arith

-- the sorted rows are those of the table, each once
times-sorted : (k from : ℕ) (cmp : ℕ → ℕ → Ordering) (n : ℕ) → (times k (sorted_from from cmp n) ≤ 1) × (0 < times k (sorted_from from cmp n) → k < n)
times-sorted k from cmp n =
    let whole : times k (sorted_from from cmp n) ≡ times k (range_with_len 0 (min from n)) + times k (in_order (comes_before cmp) (range_with_len from (n - from))) = times-append k (range_with_len 0 (min from n)) (in_order (comes_before cmp) (range_with_len from (n - from))) in
    let rest : times k (in_order (comes_before cmp) (range_with_len from (n - from))) ≡ times k (range_with_len from (n - from)) = times-in_order (comes_before cmp) k (range_with_len from (n - from)) in
    let front : (times k (range_with_len 0 (min from n)) ≤ 1) × (0 < times k (range_with_len 0 (min from n)) → (0 ≤ k) × (k < 0 + min from n)) = times-range k 0 (min from n) in
    let back : (times k (range_with_len from (n - from)) ≤ 1) × (0 < times k (range_with_len from (n - from)) → (from ≤ k) × (k < from + (n - from))) = times-range k from (n - from) in
    ⊎_elim
    (λ (f : 0 < times k (range_with_len 0 (min from n))). let in_front : (0 ≤ k) × (k < 0 + min from n) = front.1 f in
    let none : times k (range_with_len from (n - from)) ≤ 0 = ⊎_elim (λ (s : 0 < times k (range_with_len from (n - from))). absurd (omega (arith, in_front.1, (back.1 s).0))) (λ (z : times k (range_with_len from (n - from)) ≤ 0). z) (cases_lt 0 (times k (range_with_len from (n - from)))) in
    (omega (arith, front.0), λ h. omega (arith, in_front.1)))
    (λ (z : times k (range_with_len 0 (min from n)) ≤ 0). (omega (arith, back.0), λ h. let in_back : (from ≤ k) × (k < from + (n - from)) = back.1 (omega arith) in omega (arith, in_back.1, in_back.0)))
    (cases_lt 0 (times k (range_with_len 0 (min from n))))

pub sorted-distinct : (from : ℕ) (cmp : ℕ → ℕ → Ordering) (n : ℕ) → AreDistinct (sorted_from from cmp n) n
sorted-distinct from cmp n = record {
  below = λ k h. (times-sorted (get_or (sorted_from from cmp n) k 0) from cmp n).1 (in-list (sorted_from from cmp n) k h);
  apart = apart (sorted_from from cmp n) (λ k. (times-sorted k from cmp n).0);
}

-- the indexes that are put in order are the old ones
put_in-permutes : (before : ℕ → ℕ → Bool) (i : ℕ) (js : List ℕ) → IsPermutation (i ∷ js) (put_in before i js)
put_in-permutes before i [] = IsPermutation-refl (i ∷ [])
put_in-permutes before i (j ∷ js) = ⊎_elim
    (λ (first : before i j ≡ true). subst (λ (l : List ℕ). IsPermutation (i ∷ j ∷ js) l) (sym (put_in-yes before i j js first)) (IsPermutation-refl (i ∷ j ∷ js)))
    (λ (later : before i j ≡ false). subst (λ (l : List ℕ). IsPermutation (i ∷ j ∷ js) l) (sym (put_in-no before i j js later))
    (IsPermutation-trans (i ∷ j ∷ js) (j ∷ i ∷ js) (j ∷ put_in before i js) (IsPermutation-middle (i ∷ []) j js) (IsPermutation-cons j (i ∷ js) (put_in before i js) (put_in-permutes before i js))))
    (cases_Bool (before i j))

in_order-permutes : (before : ℕ → ℕ → Bool) (is : List ℕ) → IsPermutation is (in_order before is)
in_order-permutes before [] = IsPermutation-refl []
in_order-permutes before (i ∷ is) = IsPermutation-trans (i ∷ is) (i ∷ in_order before is) (put_in before i (in_order before is)) (IsPermutation-cons i is (in_order before is) (in_order-permutes before is)) (put_in-permutes before i (in_order before is))

range-append : (a m n : ℕ) → range_with_len a m ++ range_with_len (a + m) n ≡ range_with_len a (m + n)
range-append a zero n = let e : a + 0 ≡ a = omega arith in let f : 0 + n ≡ n = omega arith in ap (λ (b : ℕ). range_with_len b n) e ∙ sym (ap (range_with_len a) f)
range-append a (suc m) n = let e : a + suc m ≡ a + 1 + m = omega arith in let f : suc (m + n) ≡ suc m + n = omega arith in
    ap (λ (b : ℕ). range_with_len a (suc m) ++ range_with_len b n) e ∙ ap (λ (l : List ℕ). a ∷ l) (range-append (a + 1) m n) ∙ ap (range_with_len a) f

-- where the first ones end, the others begin
both-ranges : (from n : ℕ) → range_with_len 0 (min from n) ++ range_with_len from (n - from) ≡ range_with_len 0 n
both-ranges from n = ⊎_elim
    (λ (less : from < n). let e : min from n ≡ from = omega arith in let f : from + (n - from) ≡ n = omega arith in let z : 0 + from ≡ from = omega arith in
    ap (λ (m : ℕ). range_with_len 0 m ++ range_with_len from (n - from)) e ∙ ap (λ (a : ℕ). range_with_len 0 from ++ range_with_len a (n - from)) (sym z) ∙ range-append 0 from (n - from) ∙ ap (range_with_len 0) f)
    (λ (more : n ≤ from). let e : min from n ≡ n = omega arith in let f : n - from ≡ 0 = omega arith in
    ap (λ (m : ℕ). range_with_len 0 (min from n) ++ range_with_len from m) f ∙ append-nil (range_with_len 0 (min from n)) ∙ ap (range_with_len 0) e)
    (cases_lt from n)

pub sorted-permutes : (from n : ℕ) (cmp : ℕ → ℕ → Ordering) → IsPermutation (range_with_len 0 n) (sorted_from from cmp n)
sorted-permutes from n cmp = subst (λ (l : List ℕ). IsPermutation l (sorted_from from cmp n)) (both-ranges from n)
    (IsPermutation-append_right (range_with_len 0 (min from n)) (range_with_len from (n - from)) (in_order (comes_before cmp) (range_with_len from (n - from))) (in_order-permutes (comes_before cmp) (range_with_len from (n - from))))

-- of two indexes of an ordered list the later one doesn't come before
ordered-far : (before : ℕ → ℕ → Bool) (xs : List ℕ) → IsOrdered before xs → (i j : ℕ) → i < j → j < length xs → before (get_or xs j 0) (get_or xs i 0) ≡ false
ordered-far before [] o i j h g = absurd (omega arith)
ordered-far before (x ∷ xs) o i zero h g = absurd (omega arith)
ordered-far before (x ∷ xs) o zero (suc j) h g = o.0.least (get_or xs j 0) (in-list xs j (omega arith))
ordered-far before (x ∷ xs) o (suc i) (suc j) h g = ordered-far before xs o.1 i j (omega arith) (omega arith)

not-after : (a b c d : Ordering) → ordering_then a b ≡ ordering_reverse (ordering_then c d) → is_lt (ordering_then c d) ≡ false → is_gt (ordering_then a b) ≡ false
not-after a b c d e h = turned (ordering_then a b) (ordering_then c d) e h
  where
    turned : (p q : Ordering) → p ≡ ordering_reverse q → is_lt q ≡ false → is_gt p ≡ false
    turned p Less e h = absurd (true≢false h)
    turned p Equal e h = rw e refl
    turned p Greater e h = rw e refl

first-not-after : (a b : Ordering) → is_gt (ordering_then a b) ≡ false → is_gt a ≡ false
first-not-after Less b h = refl
first-not-after Equal b h = refl
first-not-after Greater b h = h

rest-not-after : (a b : Ordering) → a ≡ Equal → is_gt (ordering_then a b) ≡ false → is_gt b ≡ false
rest-not-after Less b e h = cc
rest-not-after Equal b e h = h
rest-not-after Greater b e h = cc

not-greater : (i j : ℕ) → is_gt (nat_cmp i j) ≡ false → i ≤ j
not-greater i j h = grind (arith, nat_tests)

long-in_order : (before : ℕ → ℕ → Bool) (is : List ℕ) → length (in_order before is) ≡ length is
long-in_order before is = length_permutation is (in_order before is) (in_order-permutes before is)

-- what stands at an index from the first sorted one on, and at one before
at-sorted : (from n : ℕ) (cmp : ℕ → ℕ → Ordering) (i : ℕ) → from ≤ i → i < n → get_or (sorted_from from cmp n) i 0 ≡ get_or (in_order (comes_before cmp) (range_with_len from (n - from))) (i - from) 0
at-sorted from n cmp i past within =
    let e : i ≡ length (range_with_len 0 (min from n)) + (i - from) = rw length-range_with_len (omega arith) in
    ap (λ (k : ℕ). get_or (sorted_from from cmp n) k 0) e ∙ get_or-append-add (range_with_len 0 (min from n)) (in_order (comes_before cmp) (range_with_len from (n - from))) (i - from) 0

range-at : (a m i : ℕ) (ys : List ℕ) → i < m → get_or (range_with_len a m ++ ys) i 0 ≡ a + i
range-at a zero i ys h = absurd (omega arith)
range-at a (suc m) zero ys h = omega arith
range-at a (suc m) (suc i) ys h = let rest : get_or (range_with_len (a + 1) m ++ ys) i 0 ≡ a + 1 + i = range-at (a + 1) m i ys (omega arith) in rest ∙ omega arith

two-sorted : (from n : ℕ) (cmp : ℕ → ℕ → Ordering) → IsTotalOrder cmp → (i j : ℕ) → from ≤ i → i < j → j < n
    → let rows = sorted_from from cmp n in is_gt (ordering_then (cmp (get_or rows i 0) (get_or rows j 0)) (nat_cmp (get_or rows i 0) (get_or rows j 0))) ≡ false
two-sorted from n cmp o i j past less within =
    let before : ℕ → ℕ → Bool = comes_before cmp in
    let ys : List ℕ = in_order (comes_before cmp) (range_with_len from (n - from)) in
    let long : length (in_order (comes_before cmp) (range_with_len from (n - from))) ≡ n - from = long-in_order (comes_before cmp) (range_with_len from (n - from)) ∙ length-range_with_len from (n - from) in
    let far : comes_before cmp (get_or (in_order (comes_before cmp) (range_with_len from (n - from))) (j - from) 0) (get_or (in_order (comes_before cmp) (range_with_len from (n - from))) (i - from) 0) ≡ false
    = ordered-far (comes_before cmp) (in_order (comes_before cmp) (range_with_len from (n - from))) (in_order-ordered (comes_before cmp) (before-ranks cmp o) (range_with_len from (n - from))) (i - from) (j - from) (omega arith) (rw long (omega arith)) in
    subst (λ (b : ℕ). is_gt (ordering_then (cmp (get_or (sorted_from from cmp n) i 0) b) (nat_cmp (get_or (sorted_from from cmp n) i 0) b)) ≡ false) (sym (at-sorted from n cmp j (omega arith) within))
    (subst (λ (a : ℕ). is_gt (ordering_then (cmp a (get_or ys (j - from) 0)) (nat_cmp a (get_or ys (j - from) 0))) ≡ false) (sym (at-sorted from n cmp i past (omega arith)))
    (not-after (cmp (get_or ys (i - from) 0) (get_or ys (j - from) 0)) (nat_cmp (get_or ys (i - from) 0) (get_or ys (j - from) 0)) (cmp (get_or ys (j - from) 0) (get_or ys (i - from) 0)) (nat_cmp (get_or ys (j - from) 0) (get_or ys (i - from) 0))
    ((then_total o nat_cmp_total).antisymm (get_or ys (i - from) 0) (get_or ys (j - from) 0)) far))

pub sorted-is-sorted : (from n : ℕ) (cmp : ℕ → ℕ → Ordering) → IsTotalOrder cmp → AreSorted from cmp n (sorted_from from cmp n)
sorted-is-sorted from n cmp o = record {
  stay = λ i above within. range-at 0 (min from n) i (in_order (comes_before cmp) (range_with_len from (n - from))) (omega arith) ∙ omega arith;
  in_order = λ i j past less within. first-not-after (cmp (get_or (sorted_from from cmp n) i 0) (get_or (sorted_from from cmp n) j 0)) (nat_cmp (get_or (sorted_from from cmp n) i 0) (get_or (sorted_from from cmp n) j 0)) (two-sorted from n cmp o i j past less within);
  stable = λ i j past less within tie.
      let low : get_or (sorted_from from cmp n) i 0 ≤ get_or (sorted_from from cmp n) j 0 = not-greater (get_or (sorted_from from cmp n) i 0) (get_or (sorted_from from cmp n) j 0) (rest-not-after (cmp (get_or (sorted_from from cmp n) i 0) (get_or (sorted_from from cmp n) j 0)) (nat_cmp (get_or (sorted_from from cmp n) i 0) (get_or (sorted_from from cmp n) j 0)) tie (two-sorted from n cmp o i j past less within)) in
      let long : length (sorted_from from cmp n) ≡ n = length_permutation (range_with_len 0 n) (sorted_from from cmp n) (sorted-permutes from n cmp) ∙ length-range_with_len 0 n in
      ⊎_elim
      (λ (e : get_or (sorted_from from cmp n) i 0 ≡ get_or (sorted_from from cmp n) j 0). let same : i ≡ j = (sorted-distinct from cmp n).apart i j (rw long (omega arith)) (rw long within) e in absurd (omega arith))
      (λ (ne : get_or (sorted_from from cmp n) i 0 ≡ get_or (sorted_from from cmp n) j 0 → ⊥). omega arith)
      (cases_eq (get_or (sorted_from from cmp n) i 0) (get_or (sorted_from from cmp n) j 0));
}

not-before : (c d e : Ordering) → d ≡ ordering_reverse c → is_gt c ≡ false → e ≡ Greater → is_lt (ordering_then d e) ≡ false
not-before Less d e f h g = rw f refl
not-before Equal d e f h g = rw (f, g) refl
not-before Greater d e f h g = absurd (true≢false h)

above-greater : (i j : ℕ) → i < j → nat_cmp j i ≡ Greater
above-greater i j h = grind (arith, nat_tests)

range-sorted : (from n : ℕ) (cmp : ℕ → ℕ → Ordering) → IsTotalOrder cmp → AreSorted from cmp n (range_with_len 0 n) → IsSortedBy (comes_before cmp) (range_with_len from (n - from))
range-sorted from n cmp o sorted = λ k d low h.
    let long : length (range_with_len from (n - from)) ≡ n - from = length-range_with_len from (n - from) in
    let less : k + 1 < n - from = subst (λ (m : ℕ). k + 1 < m) long h in
    let first : get_or (range_with_len from (n - from)) k d ≡ from + k = get_or-range_with_len from (n - from) k d (omega arith) in
    let second : get_or (range_with_len from (n - from)) (k + 1) d ≡ from + (k + 1) = get_or-range_with_len from (n - from) (k + 1) d less in
    let one : get_or (range_with_len 0 n) (from + k) 0 ≡ from + k = get_or-range_with_len 0 n (from + k) 0 (omega arith) ∙ omega arith in
    let other : get_or (range_with_len 0 n) (from + (k + 1)) 0 ≡ from + (k + 1) = get_or-range_with_len 0 n (from + (k + 1)) 0 (omega arith) ∙ omega arith in
    let ordered : is_gt (cmp (from + k) (from + (k + 1))) ≡ false = subst (λ (a : ℕ). is_gt (cmp a (from + (k + 1))) ≡ false) one (subst (λ (b : ℕ). is_gt (cmp (get_or (range_with_len 0 n) (from + k) 0) b) ≡ false) other (sorted.in_order (from + k) (from + (k + 1)) (omega arith) (omega arith) (omega arith))) in
    subst (λ (b : ℕ). comes_before cmp b (get_or (range_with_len from (n - from)) k d) ≡ false) (sym second)
    (subst (λ (a : ℕ). comes_before cmp (from + (k + 1)) a ≡ false) (sym first)
    (not-before (cmp (from + k) (from + (k + 1))) (cmp (from + (k + 1)) (from + k)) (nat_cmp (from + (k + 1)) (from + k)) (o.antisymm (from + (k + 1)) (from + k)) ordered (above-greater (from + k) (from + (k + 1)) (omega arith))))

pub sorted-stays : (from n : ℕ) (cmp : ℕ → ℕ → Ordering) → IsTotalOrder cmp → AreSorted from cmp n (range_with_len 0 n) → sorted_from from cmp n ≡ range_with_len 0 n
sorted-stays from n cmp o sorted =
    let same : range_with_len from (n - from) ≡ in_order (comes_before cmp) (range_with_len from (n - from)) = sorted-in-order cmp o (range_with_len from (n - from)) (range_with_len from (n - from)) (IsPermutation-refl (range_with_len from (n - from))) (range-sorted from n cmp o sorted) in
    ap (λ (l : List ℕ). range_with_len 0 (min from n) ++ l) (sym same) ∙ both-ranges from n
