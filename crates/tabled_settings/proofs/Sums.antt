-- Sums over the numbers below a bound, and sums over lists by place.
use Rattle.std.proofs.lemmas.Grind.{common_steps}
use Rattle.tabled_settings.proofs.Common.{[], ◌*◌, ◌+◌, ◌-◌, ◌<◌, ◌∙◌, ◌∷◌, ◌≡◌, ◌≤◌, Bool, List, ap, ap₂, arith, cond, count_by, false, fill_by_all, filter, get_or, get_or_past, joined, length, map, range_with_len, refl, suc, sum_by, sum_by-map-range_with_len_more, sym, true, zero, ℕ}
use Rattle.std.proofs.lemmas.List.Sums.{sum_by-append, sum_by-cons}

abbrev pub sum_to : ℕ → (ℕ → ℕ) → ℕ
sum_to zero f = 0
sum_to (suc n) f = sum_to n f + f n

more_by_nothing : (a b : ℕ) → b ≡ 0 → a ≡ a + b
more_by_nothing a b e = omega (arith, e)

nothing_more : (a b : ℕ) → a ≡ 0 → b ≡ a + b
nothing_more a b e = omega (arith, e)

pub sum_to-alike : (n : ℕ) (f h : ℕ → ℕ) → ((k : ℕ) → k < n → f k ≡ h k) → sum_to n f ≡ sum_to n h
sum_to-alike zero f h same = refl
sum_to-alike (suc n) f h same = ap₂ (λ (a b : ℕ). a + b) (sum_to-alike n f h (λ k l. same k (omega (arith, l)))) (same n (omega arith))

pub sum_to-zero : (n : ℕ) (f : ℕ → ℕ) → ((k : ℕ) → k < n → f k ≡ 0) → sum_to n f ≡ 0
sum_to-zero zero f none = refl
sum_to-zero (suc n) f none = omega (arith, sum_to-zero n f (λ k l. none k (omega (arith, l))), none n (omega arith))

sum_to-both : (n : ℕ) (f h : ℕ → ℕ) → sum_to n (λ (k : ℕ). f k + h k) ≡ sum_to n f + sum_to n h
sum_to-both zero f h = refl
sum_to-both (suc n) f h = omega (arith, sum_to-both n f h)

-- two sums in each other, in either order
pub sum_to-swap : (m n : ℕ) (f : ℕ → ℕ → ℕ) → sum_to m (λ (i : ℕ). sum_to n (f i)) ≡ sum_to n (λ (k : ℕ). sum_to m (λ (i : ℕ). f i k))
sum_to-swap zero n f = sym (sum_to-zero n (λ (k : ℕ). 0) (λ k l. refl))
sum_to-swap (suc m) n f = ap (λ (a : ℕ). a + sum_to n (f m)) (sum_to-swap m n f) ∙ sym (sum_to-both n (λ (k : ℕ). sum_to m (λ (i : ℕ). f i k)) (f m))

pub sum_to-add : (a b : ℕ) (f : ℕ → ℕ) → sum_to (a + b) f ≡ sum_to a f + sum_to b (λ (k : ℕ). f (a + k))
sum_to-add a zero f = grind (arith, common_steps, more_by_nothing)
sum_to-add a (suc b) f =
    let more : a + suc b ≡ suc (a + b) = omega arith in
    ap (λ (n : ℕ). sum_to n f) more ∙ omega (arith, sum_to-add a b f)

-- m blocks of n numbers
pub sum_to-blocks : (m n : ℕ) (f : ℕ → ℕ) → sum_to (m * n) f ≡ sum_to m (λ (i : ℕ). sum_to n (λ (k : ℕ). f (i * n + k)))
sum_to-blocks zero n f = grind (arith, common_steps)
sum_to-blocks (suc m) n f =
    let more : suc m * n ≡ m * n + n = omega arith in
    ap (λ (a : ℕ). sum_to a f) more
    ∙ sum_to-add (m * n) n f
    ∙ ap (λ (a : ℕ). a + sum_to n (λ (k : ℕ). f (m * n + k))) (sum_to-blocks m n f)

module _ {A : Type 0} (weight : A → ℕ) where
  pub sum_by-range : (n : ℕ) (f : ℕ → A) → sum_by weight (map f (range_with_len 0 n)) ≡ sum_to n (λ (k : ℕ). weight (f k))
  sum_by-range zero f = refl
  sum_by-range (suc n) f =
      let more : suc n ≡ n + 1 = omega arith in
      ap (λ (m : ℕ). sum_by weight (map f (range_with_len 0 m))) more
      ∙ sum_by-map-range_with_len_more weight f 0 n n (omega arith)
      ∙ ap (λ (a : ℕ). a + weight (f n)) (sum_by-range n f)

  -- by place, and as far after the end as one likes, where the default weighs nothing
  pub sum_by-places : (xs : List A) (d : A) (n : ℕ) → weight d ≡ 0 → length xs ≤ n → sum_by weight xs ≡ sum_to n (λ (k : ℕ). weight (get_or xs k d))
  sum_by-places xs d n light enough =
      let f : ℕ → ℕ = λ (k : ℕ). weight (get_or xs k d) in
      let all : length xs + (n - length xs) ≡ n = omega (arith, enough) in
      ap (sum_by weight) (fill_by_all (λ (k : ℕ). get_or xs k d) xs (length xs) d refl (λ k l. refl))
      ∙ sum_by-range (length xs) (λ (k : ℕ). get_or xs k d)
      ∙ more_by_nothing (sum_to (length xs) f) (sum_to (n - length xs) (λ (k : ℕ). f (length xs + k))) (sum_to-zero (n - length xs) (λ (k : ℕ). f (length xs + k)) (λ k l. ap weight (get_or_past xs (length xs + k) d (omega arith)) ∙ light))
      ∙ sym (sum_to-add (length xs) (n - length xs) f)
      ∙ ap (λ (m : ℕ). sum_to m f) all

  pub sum_by-joined : (rows : List (List A)) → sum_by weight (joined rows) ≡ sum_by (sum_by weight) rows
  sum_by-joined [] = refl
  sum_by-joined (row ∷ rows) =
      sum_by-append weight row (joined rows)
      ∙ ap (λ (a : ℕ). sum_by weight row + a) (sum_by-joined rows)
      ∙ sym (sum_by-cons (sum_by weight) row rows)

  pub count_by-filter : (p q : A → Bool) → ((x : A) → weight x ≡ cond (q x) (cond (p x) 1 0) 0) → (xs : List A) → count_by p (filter q xs) ≡ sum_by weight xs
  count_by-filter p q weighs [] = refl
  count_by-filter p q weighs (x ∷ xs) = one_more (q x) refl (count_by-filter p q weighs xs) ∙ sym (sum_by-cons weight x xs)
    where
      one_more : (b : Bool) → q x ≡ b → count_by p (filter q xs) ≡ sum_by weight xs → count_by p (filter q (x ∷ xs)) ≡ weight x + sum_by weight xs
      one_more true e rest =
          let one : weight x ≡ cond (p x) 1 0 = weighs x ∙ ap (λ (b : Bool). cond b (cond (p x) 1 0) 0) e in
          rw e (sum_by-cons (λ (y : A). cond (p y) 1 0) x (filter q xs) ∙ ap₂ (λ (a b : ℕ). a + b) (sym one) rest)
      one_more false e rest =
          let none : weight x ≡ 0 = weighs x ∙ ap (λ (b : Bool). cond b (cond (p x) 1 0) 0) e in
          rw e (rest ∙ nothing_more (weight x) (sum_by weight xs) none)
