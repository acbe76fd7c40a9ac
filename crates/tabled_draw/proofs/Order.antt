-- Lists in the order of a number of each element.
use Rattle.tabled_draw.proofs.Common.{AllByRecursion, Bool, List, Member, [], ap, ap₂, arith, by_number, cases_eq, cond, cond-false, cond-true, each, eq-eqb, eqb-true, false, false_from_ne_true, inl, inr, nat_lt, nat_tests, not, refl, subst, suc, sym, true, zero, ℕ, ◌&&◌, ◌++◌, ◌<◌, ◌==◌, ◌∙◌, ◌∷◌, ◌≡◌, ◌≢◌, ◌≤◌, ◌⊎◌}
use Rattle.std.specs.List.{filter}
use Rattle.std.proofs.lemmas.List.Elements.{filter_agree}
use Rattle.std.specs.List.Sorted.{IsNonDecreasingBy, IsStableByKey, ties}
use Rattle.std.specs.Ordering.{is_lt, nat_cmp}
use Rattle.std.specs.declared.cmp.Ordering.TheVariants.{Less, Equal, Greater}
use Rattle.tabled_grid.proofs.Members.{filter-from, filter-member, member-either, member-left, member-right}
use Rattle.tabled_draw.proofs.Each.{each-same}

lower : (m n : ℕ) → is_lt (nat_cmp m n) ≡ nat_lt m n
lower m n = less-of (nat_lt m n) (m == n)
  where
    less-of : (b c : Bool) → is_lt (cond b Less (cond c Equal Greater)) ≡ b
    less-of true c = refl
    less-of false true = refl
    less-of false false = refl

module _ {A : Type 0} (number : A → ℕ) where
  -- the elements of one number
  numbered : List A → ℕ → List A
  numbered xs k = filter (λ x. number x == k) xs

  -- what stands in the list in order stands in the list, and has a number below n
  pub ordered-member : (n : ℕ) (xs : List A) (x : A) → Member x (by_number number n xs) → Member x xs
  ordered-member zero xs x none = absurd none
  ordered-member (suc n) xs x m = elim (member-either x (by_number number n xs) (filter (λ x. number x == n) xs) m) [ inl before ↦ (ordered-member n xs x) before | inr here ↦ (filter-member (λ x. number x == n) x xs here).0 ]

  -- and the other way round
  pub member-ordered : (n : ℕ) (xs : List A) (x : A) → Member x xs → number x < n → Member x (by_number number n xs)
  member-ordered zero xs x m h = absurd (omega arith)
  member-ordered (suc n) xs x m h = elim (cases_eq (number x) n) [
    | inl same ↦ member-right x (by_number number n xs) (filter (λ x. number x == n) xs) (filter-from (λ x. number x == n) x xs m (eq-eqb (number x) n same))
    | inr other ↦ member-left x (by_number number n xs) (filter (λ x. number x == n) xs) ((member-ordered n xs x m) (lower other))
  ]
    where
      lower : number x ≢ n → number x < n
      lower other = grind (arith, nat_tests)

  -- ---- a sorted list is in order

  -- the numbers of a list are at least a
  IsFrom : ℕ → List A → Type 0
  IsFrom a xs = (x : A) → Member x xs → a ≤ number x

  none-numbered : (xs : List A) (k : ℕ) → ((x : A) → Member x xs → number x ≢ k) → filter (λ x. number x == k) xs ≡ []
  none-numbered [] k never = refl
  none-numbered (x ∷ xs) k never = cond-false _ _ _ (false_from_ne_true _ (λ t. never x (inl refl) (eqb-true (number x) k t))) ∙ none-numbered xs k (λ y m. never y (inr m))

  none-below : (n : ℕ) (xs : List A) → ((x : A) → Member x xs → n ≤ number x) → by_number number n xs ≡ []
  none-below zero xs low = refl
  none-below (suc n) xs low = ap₂ (λ ys zs. ys ++ zs) (none-below n xs (λ x m. omega (arith, low x m))) (none-numbered xs n (λ x m e. absurd (omega (arith, low x m, e))))

  -- an element before those whose numbers are no lower
  first-ordered : (n : ℕ) (x : A) (xs : List A) → number x < n → ((y : A) → Member y xs → number x ≤ number y) → by_number number n (x ∷ xs) ≡ x ∷ by_number number n xs
  first-ordered zero x xs h low = absurd (omega arith)
  first-ordered (suc n) x xs h low = first-of (cases_eq (number x) n) (λ less. first-ordered n x xs less low)
    where
      lower : number x ≢ n → number x < n
      lower other = grind (arith, nat_tests)

      first-of : (number x ≡ n) ⊎ (number x ≢ n) → (number x < n → by_number number n (x ∷ xs) ≡ x ∷ by_number number n xs) → by_number number n (x ∷ xs) ++ filter (λ x. number x == n) (x ∷ xs) ≡ x ∷ (by_number number n xs ++ filter (λ x. number x == n) xs)
      first-of (inl same) go =
          ap₂ (λ ys zs. ys ++ zs) (none-below n (x ∷ xs) (λ y m. at_least y m)) (cond-true _ _ _ (eq-eqb (number x) n same))
          ∙ ap (λ ys. x ∷ (ys ++ filter (λ x. number x == n) xs)) (sym (none-below n xs (λ y m. omega (arith, low y m, same))))
        where
          at_least : (y : A) → Member y (x ∷ xs) → n ≤ number y
          at_least y (inl e) = omega (arith, same, ap number e)
          at_least y (inr m) = omega (arith, low y m, same)
      first-of (inr other) go = ap₂ (λ ys zs. ys ++ zs) (go (lower other)) (cond-false _ _ _ (false_from_ne_true _ (λ t. other (eqb-true (number x) n t))))

  least-first : (x : A) (xs : List A) → IsNonDecreasingBy number (x ∷ xs) → (y : A) → Member y xs → number x ≤ number y
  least-first x (z ∷ xs) up y (inl e) = omega (arith, up 0 1 x (omega arith) (omega arith), ap number e)
  least-first x (z ∷ xs) up y (inr m) = omega (arith, up 0 1 x (omega arith) (omega arith), least-first z xs (λ i j d low high. up (suc i) (suc j) d (omega arith) (omega arith)) y m)
  least-first x [] up y none = absurd none

  pub sorted-ordered : (n : ℕ) (xs : List A) → IsNonDecreasingBy number xs → ((x : A) → Member x xs → number x < n) → by_number number n xs ≡ xs
  sorted-ordered n [] up below = none-below n [] (λ x none. absurd none)
  sorted-ordered n (x ∷ xs) up below =
      first-ordered n x xs (below x (inl refl)) (least-first x xs up)
      ∙ ap (λ ys. x ∷ ys) (sorted-ordered n xs (λ i j d low high. up (suc i) (suc j) d (omega arith) (omega arith)) (λ y m. below y (inr m)))

  -- the order is by what each number has in the list alone
  pub ordered-same : (n : ℕ) (xs ys : List A) → ((k : ℕ) → filter (λ x. number x == k) ys ≡ filter (λ x. number x == k) xs) → by_number number n ys ≡ by_number number n xs
  ordered-same n xs ys same = each-same (λ k. filter (λ x. number x == k) ys) (λ k. filter (λ x. number x == k) xs) n (λ k less. same k)

  -- the elements of a number that ties with an element's
  tied : (x y : A) → ties (λ x y. is_lt (nat_cmp (number x) (number y))) x y ≡ (number y == number x)
  tied x y = ap₂ (λ a b. not a && not b) (lower (number x) (number y)) (lower (number y) (number x)) ∙ neither-less (number x) (number y)
    where
      neither-less : (m n : ℕ) → (not (nat_lt m n) && not (nat_lt n m)) ≡ (n == m)
      neither-less m n = grind (arith, nat_tests)

  -- a list that is sorted, elements of one number as they stood, is in order
  pub stably-ordered : (one : ℕ → A) → ((k : ℕ) → number (one k) ≡ k) → (xs ys : List A) → IsNonDecreasingBy number ys → IsStableByKey number nat_cmp xs ys → (n : ℕ) → ((x : A) → Member x xs → number x < n) → ys ≡ by_number number n xs
  stably-ordered one is xs ys up stable n below = sym (sorted-ordered n ys up (λ y m. below y (back y m))) ∙ ordered-same n xs ys same
    where
      tests : (k : ℕ) (zs : List A) → filter (ties (λ x y. is_lt (nat_cmp (number x) (number y))) (one k)) zs ≡ filter (λ x. number x == k) zs
      tests k zs = filter_agree (ties (λ x y. is_lt (nat_cmp (number x) (number y))) (one k)) (λ x. number x == k) (λ y. tied (one k) y ∙ ap (λ m. number y == m) (is k)) zs

      same : (k : ℕ) → filter (λ x. number x == k) ys ≡ filter (λ x. number x == k) xs
      same k = sym (tests k ys) ∙ stable (one k) ∙ tests k xs

      back : (y : A) → Member y ys → Member y xs
      back y m = (filter-member (λ x. number x == number y) y xs (subst (λ (zs : List A). Member y zs) (same (number y)) (filter-from (λ x. number x == number y) y ys m (eq-eqb (number y) (number y) refl)))).0

-- what holds of all holds of each
pub each-of : {A : Type 0} (P : A → Type 0) (xs : List A) → AllByRecursion P xs → (x : A) → Member x xs → P x
each-of P (y ∷ xs) all x (inl same) = subst P (sym same) all.0
each-of P (y ∷ xs) all x (inr later) = each-of P xs all.1 x later
each-of P [] all x none = absurd none

pub all-of : {A : Type 0} (P : A → Type 0) (xs : List A) → ((x : A) → Member x xs → P x) → AllByRecursion P xs
all-of P [] each = tt
all-of P (x ∷ xs) each = (each x (inl refl), all-of P xs (λ y m. each y (inr m)))
