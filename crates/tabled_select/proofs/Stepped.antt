-- What iterators made of iterators give.
use Rattle.tabled_select.proofs.Common.{[], ◌%◌, ◌*◌, ◌++◌, ◌+◌, ◌-◌, ◌/◌, ◌<◌, ◌==◌, ◌∙◌, ◌∷◌, ◌≡◌, ◌≤◌, AlwaysYields, Count, Hops, HopsIfAny, HopsOver, IfNone, IfSome, IsFinite, List, MakesProgress, None, OnSome, Option, ap, arith, common_steps, div-eq_of_lt, div-mul-le_self, drop, enumerate_from, every, filter, get_or, gives_left, hops_left, le-div, length, length-map, map, mod-mul-add, mul-mod_left, ne_eqb, refl, rules, size, suc, sym, zero, ℕ}
use Rattle.std.proofs.Common.{Some}
use Rattle.std.proofs.lemmas.List.{append-nil}

some_item : {B : Type 0} (y : B) (ys : List B) → y ∷ ys ≡ [] → ⊥
some_item y ys e = omega (arith, ap length e)

-- the members at the places k, k + 1 + n, k + 2 (1 + n) and so on
abbrev pub every_from : {A : Type 0} → ℕ → ℕ → List A → List A
every_from n k [] = []
every_from n zero (x ∷ xs) = x ∷ every_from n n xs
every_from n (suc k) (x ∷ xs) = every_from n k xs

-- of places from i on, those that 1 + n divides: the first such place is i + k
pub every-from : {A : Type 0} (n k i q : ℕ) (xs : List A) → k ≤ n → i + k ≡ q * suc n → map (λ p. p.1) (filter (λ p. p.0 % suc n == 0) (enumerate_from i xs)) ≡ every_from n k xs
every-from n k i q [] h e = refl
every-from n zero i q (x ∷ xs) h e =
    let divides : i % suc n ≡ 0 = ap (λ m. m % suc n) (omega (arith, e)) ∙ mul-mod_left q (suc n) in
    rw divides (ap (λ ys. x ∷ ys) (every-from n n (i + 1) (q + 1) xs (omega arith) (omega (arith, e))))
every-from n (suc k) i zero (x ∷ xs) h e = absurd (omega (arith, e))
every-from n (suc k) i (suc q) (x ∷ xs) h e =
    let rest : i % suc n ≡ n - k = ap (λ m. m % suc n) (omega (arith, e)) ∙ mod-mul-add q (suc n) (n - k) (omega arith) in
    rw (rest, ne_eqb (n - k) 0 (λ z. omega arith)) (every-from n k (i + 1) (suc q) xs (omega arith) (omega (arith, e)))

module _ {B : Type 0} (gap : ℕ) where
  -- too few members for the gap
  every_from-few : (k : ℕ) (xs : List B) → length xs ≤ k → every_from gap k xs ≡ []
  every_from-few k [] h = refl
  every_from-few zero (x ∷ xs) h = absurd (omega arith)
  every_from-few (suc k) (x ∷ xs) h = every_from-few k xs (omega arith)

  -- the gap is passed over
  every_from-past : (k : ℕ) (xs : List B) (y : B) (ys : List B) → length xs ≡ k → every_from gap k (xs ++ y ∷ ys) ≡ y ∷ every_from gap gap ys
  every_from-past zero [] y ys h = refl
  every_from-past zero (x ∷ xs) y ys h = absurd (omega arith)
  every_from-past (suc k) [] y ys h = absurd (omega arith)
  every_from-past (suc k) (x ∷ xs) y ys h = every_from-past k xs y ys (omega arith)

module _ {S A B : Type 0} (steps : S → Option A → S → Type 0) (v : A → B) where
  ended : (more : List B) (t u : S) → AlwaysYields steps v t more → steps t None u → more ≡ []
  ended [] t u gives p = refl
  ended (y ∷ ys) t u gives p = absurd (gives.0 u p)

  went : (more : List B) (t u : S) (x : A) → AlwaysYields steps v t more → steps t (Some x) u → (ys : List B) × (more ≡ v x ∷ ys) × AlwaysYields steps v u ys
  went [] t u x gives p = absurd (gives x u p)
  went (y ∷ ys) t u x gives p = let next = gives.1 x u p in (ys, ap (λ z. z ∷ ys) (sym next.0), next.1)

  module _ (gap : ℕ) where
    -- what came where no more comes
    at-none : (all : List B) (s t : S × ℕ) → AlwaysYields steps v s.0 all → HopsOver steps gap s None t → every_from gap s.1 all ≡ []
    at-none all s t gives p = grind (arith, common_steps, gives_left, ended, append-nil, every_from-few, length-map)

    -- what is left where one more comes
    at-some : (all : List B) (s t : S × ℕ) (x : A) → AlwaysYields steps v s.0 all → HopsOver steps gap s (Some x) t → (rest : List B) × (every_from gap s.1 all ≡ v x ∷ every_from gap t.1 rest) × AlwaysYields steps v t.0 rest
    at-some all s t x gives p = grind (arith, common_steps, gives_left, went, length-map, every_from-past)

    -- an iterator that passes over gaps gives every so-manieth of what its source gives
    pub gives-hops : (ys all : List B) (s : S × ℕ) → AlwaysYields steps v s.0 all → every_from gap s.1 all ≡ ys → AlwaysYields (HopsOver steps gap) v s ys
    gives-hops [] all s gives e = λ x t p. some_item _ _ (sym (at-some all s t x gives p).1 ∙ e)
    gives-hops (y ∷ ys) all s gives e = (
      (λ t p. some_item y ys (sym e ∙ at-none all s t gives p)),
      λ x t p.
          let next = at-some all s t x gives p in
          let same = sym next.1 ∙ e in
          (ap (λ xs. get_or xs 0 y) same, gives-hops ys next.0 t next.2 (ap (drop 1) same)),
    )

  -- one whose source is there
  pub gives-if_any : (ys : List B) (h : Hops S) (s : S) → h.source ≡ Some s → AlwaysYields (HopsOver steps h.gap) v (s, h.ahead) ys → AlwaysYields (HopsIfAny steps) v h ys
  gives-if_any [] h s e gives = λ x t p. let q = rw e at p.1 in gives x (q.0, t.ahead) q.2
  gives-if_any (y ∷ ys) h s e gives = (
    (λ t p. let q = rw e at p.1 in gives.0 (q.0, t.ahead) q.2),
    λ x t p.
        let q = rw e at p.1 in
        let next = gives.1 x (q.0, t.ahead) q.2 in
        (next.0, gives-if_any ys t q.0 q.1 (rw p.0 next.1)),
  )

-- nothing comes where there is no source
pub some_none : {A : Type 0} {x : A} → Some x ≡ None → ⊥
some_none e = search rules

-- no member is every 0-th
pub every-none : {B : Type 0} (n : ℕ) (all : List B) → (1 ≤ n → ⊥) → [] ≡ every n all
every-none zero all h = refl
every-none (suc n) all h = absurd (h (omega arith))

-- every n-th, the first one included
pub every_from-fresh : {B : Type 0} (n gap : ℕ) (all : List B) → gap + 1 ≡ n → every_from gap 0 all ≡ every n all
every_from-fresh zero gap all e = absurd (omega arith)
every_from-fresh (suc n) gap all e =
    let same : gap ≡ n = omega arith in
    ap (λ k. every_from k 0 all) same ∙ sym (every-from n 0 0 0 all (omega arith) (omega arith))

-- past a gap fewer are left
pub hops-fewer : (gap ahead m n : ℕ) → m + ahead < n → (m - gap + gap) / (gap + 1) < (n - ahead + gap) / (gap + 1)
hops-fewer gap ahead m n h = grind (arith, common_steps, div-eq_of_lt, le-div, div-mul-le_self)

-- a call that passes over what is ahead makes progress
pub hops-progress : {S A : Type 0} (can : S → Type 0) (left : S → Count) (old : Hops S) (s t : S) (r : Option A) → old.source ≡ Some s → (IsFinite (left s) → OnSome r (can t × IsFinite (left t) × (size (left t) + old.ahead < size (left s)))) → OnSome r (can t) → (IsFinite (left s) → IfNone r (IsFinite (left t))) → MakesProgress (λ h. IfSome h.source can) (λ h. hops_left left h.source h.ahead h.gap) old r (record { source = Some t; ahead = old.gap; gap = old.gap })
hops-progress can left old s t None e p k f = rw e (record { on = λ _. tt; keeps = tt; rests = f })
hops-progress can left old s t (Some x) e p k f = grind (arith, common_steps, hops-fewer)
