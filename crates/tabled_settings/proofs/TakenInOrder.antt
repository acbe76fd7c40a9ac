-- Indexes that are named, each once.
use Rattle.std.proofs.lemmas.Grind.{common_steps}
use Rattle.std.proofs.Common.{◌==◌, ◌||◌, ◌≡◌, ◌≢◌, ◌<◌, ◌≤◌, ◌∙◌, ◌⊎◌, ◌++◌, [], ◌∷◌, Bool, true, false, cond, ℕ, List, length, ap, arith, drop, get_or, inl, inr, not, refl, suc, sym, take, ltb, set, true≢false, Some, Less, nat_cmp}
use Rattle.std.proofs.lemmas.Bool.{cases_Bool, cases_eq, cases_lt, eq-eqb, ne_eqb, lt-ltb, le-ltb}
use Rattle.std.proofs.lemmas.List.{append-nil, drop_all, get_or-set_other, get_or-set_same, get_or_default, length-set, take_all}
use Rattle.std.proofs.lemmas.List.Elements.{filter-append, All-filter}
use Rattle.std.proofs.lemmas.List.Kept.{AllPairs-cons, AllPairs-filter}
use Rattle.std.proofs.lemmas.List.Elements.{All-from_recursion, filter_passes, recursion_from_All}
use Rattle.std.proofs.lemmas.Bool.Decides.{nat_tests}
use Rattle.std.specs.Cmp.{nat_cmp_is}
use Rattle.std.specs.Ordering.{is_lt, partial_lt}
use Rattle.std.specs.List.{AllByRecursion, AllPairs, filter}
use Rattle.tabled_settings.specs.Arranged.{AreDistinct}
use Rattle.tabled_settings.specs.Kept.{each_once, taken_in_order}
use Rattle.tabled_select.specs.Located.{TellsLocated, is_located}

-- an index more is new, or it isn't
pub once-new : (xs : List ℕ) (y : ℕ) → is_located xs y ≡ false → each_once (xs ++ y ∷ []) ≡ each_once xs ++ y ∷ []
once-new [] y new = refl
once-new (x ∷ xs) y new = elim (cases_Bool (x == y)) [
  | inl same ↦ absurd (true≢false (sym (ap (λ (b : Bool). b || is_located xs y) same) ∙ new))
  | inr other ↦
      let rest : is_located xs y ≡ false = sym (ap (λ (b : Bool). b || is_located xs y) other) ∙ new in
      ap (λ (ys : List ℕ). x ∷ filter (λ (k : ℕ). not (x == k)) ys) (once-new xs y rest)
      ∙ ap (λ (ys : List ℕ). x ∷ ys) (filter-append (λ (k : ℕ). not (x == k)) (each_once xs) (y ∷ []))
      ∙ ap (λ (b : Bool). x ∷ filter (λ (k : ℕ). not (x == k)) (each_once xs) ++ cond (not b) (y ∷ []) []) other
]

pub once-seen : (xs : List ℕ) (y : ℕ) → is_located xs y ≡ true → each_once (xs ++ y ∷ []) ≡ each_once xs
once-seen [] y seen = absurd (true≢false (sym seen))
once-seen (x ∷ xs) y seen = elim (cases_Bool (is_located xs y)) [
  | inl rest ↦ ap (λ (ys : List ℕ). x ∷ filter (λ (k : ℕ). not (x == k)) ys) (once-seen xs y rest)
  | inr new ↦
      let same : (x == y) ≡ true = first (x == y) (sym (ap (λ (b : Bool). (x == y) || b) new) ∙ seen) in
      ap (λ (ys : List ℕ). x ∷ filter (λ (k : ℕ). not (x == k)) ys) (once-new xs y new)
      ∙ ap (λ (ys : List ℕ). x ∷ ys) (filter-append (λ (k : ℕ). not (x == k)) (each_once xs) (y ∷ []))
      ∙ ap (λ (b : Bool). x ∷ filter (λ (k : ℕ). not (x == k)) (each_once xs) ++ cond (not b) (y ∷ []) []) same
      ∙ ap (λ (ys : List ℕ). x ∷ ys) (append-nil _)
]
  where
    first : (b : Bool) → b || false ≡ true → b ≡ true
    first true is = refl
    first false is = is

located-below : (n y : ℕ) → y < n → (xs : List ℕ) → is_located (filter (λ (i : ℕ). ltb i n) xs) y ≡ is_located xs y
located-below n y h [] = refl
located-below n y h (x ∷ xs) = elim (cases_lt x n) [
  | inl k ↦ rw (lt-ltb x n k) (ap (λ (b : Bool). (x == y) || b) (located-below n y h xs))
  | inr k ↦ let other : (x == y) ≡ false = ne_eqb x y (λ e. absurd (omega (arith, h, k, e))) in rw (le-ltb x n k, other) (located-below n y h xs)
]

module _ (found : List ℕ) (n y : ℕ) where
  abbrev test : ℕ → Bool
  test i = ltb i n

  pub taken-new : y < n → is_located found y ≡ false → taken_in_order (found ++ y ∷ []) n ≡ taken_in_order found n ++ y ∷ []
  taken-new h new =
      ap each_once (filter-append test found (y ∷ []) ∙ ap (λ (b : Bool). filter test found ++ cond b (y ∷ []) []) (lt-ltb y n h))
      ∙ once-new (filter test found) y (located-below n y h found ∙ new)

  pub taken-seen : y < n → is_located found y ≡ true → taken_in_order (found ++ y ∷ []) n ≡ taken_in_order found n
  taken-seen h seen =
      ap each_once (filter-append test found (y ∷ []) ∙ ap (λ (b : Bool). filter test found ++ cond b (y ∷ []) []) (lt-ltb y n h))
      ∙ once-seen (filter test found) y (located-below n y h found ∙ seen)

  pub taken-past : n ≤ y → taken_in_order (found ++ y ∷ []) n ≡ taken_in_order found n
  taken-past past = ap each_once (filter-append test found (y ∷ []) ∙ ap (λ (b : Bool). filter test found ++ cond b (y ∷ []) []) (le-ltb y n past) ∙ append-nil _)

  located-more : (i : ℕ) → is_located (found ++ y ∷ []) i ≡ is_located found i || (y == i)
  located-more i = more found
    where
      more : (xs : List ℕ) → is_located (xs ++ y ∷ []) i ≡ is_located xs i || (y == i)
      more [] = right (y == i)
        where
          right : (b : Bool) → b || false ≡ b
          right true = refl
          right false = refl
      more (x ∷ xs) = ap (λ (b : Bool). (x == i) || b) (more xs) ∙ assoc (x == i)
        where
          assoc : (a : Bool) → a || (is_located xs i || (y == i)) ≡ (a || is_located xs i) || (y == i)
          assoc true = refl
          assoc false = refl

  pub told-new : (marks : List Bool) → TellsLocated found n marks → y < n → TellsLocated (found ++ y ∷ []) n (set marks y true)
  told-new marks t h = record { many = length-set marks y true ∙ t.many; tells = λ i below. told i below (cases_eq i y) }
    where
      told : (i : ℕ) → i < n → (i ≡ y) ⊎ (i ≢ y) → get_or (set marks y true) i false ≡ is_located (found ++ y ∷ []) i
      told i below (inl same) = grind (arith, common_steps, located-more, get_or-set_same)
      told i below (inr off) = grind (arith, common_steps, located-more, get_or-set_other)

  pub told-seen : (marks : List Bool) → TellsLocated found n marks → y < n → get_or marks y false ≡ true → TellsLocated (found ++ y ∷ []) n marks
  told-seen marks t h seen = record { many = t.many; tells = λ i below. told i below (cases_eq i y) }
    where
      told : (i : ℕ) → i < n → (i ≡ y) ⊎ (i ≢ y) → get_or marks i false ≡ is_located (found ++ y ∷ []) i
      told i below (inl same) = grind (arith, common_steps, located-more)
      told i below (inr off) = grind (arith, common_steps, located-more)

  pub told-past : (marks : List Bool) → TellsLocated found n marks → n ≤ y → TellsLocated (found ++ y ∷ []) n marks
  told-past marks t past = record { many = t.many; tells = λ i below. grind (arith, common_steps, located-more) }

  -- an index that has a mark, or no room for one, changes nothing
  pub told-later : (marks : List Bool) → TellsLocated found n marks → (length marks ≤ y) ⊎ (get_or marks y false ≡ true) → TellsLocated (found ++ y ∷ []) n marks × (taken_in_order (found ++ y ∷ []) n ≡ taken_in_order found n)
  told-later marks t later = elim (cases_lt y n) [
    | inl h ↦
        let seen : get_or marks y false ≡ true = elim later [ inl past ↦ absurd (omega (arith, past, t.many, h)) | inr is ↦ is ] in
        (told-seen marks t h seen, taken-seen h (sym (t.tells y h) ∙ seen))
    | inr past ↦ (told-past marks t past, taken-past past)
  ]

-- marks that are written back stand in the place of the old ones
pub marks_back : (n : ℕ) (old new : List Bool) → length new ≡ length old → n ≡ length old → take n (new ++ drop (length new) old) ≡ new
marks_back n old new many all =
    let none : drop (length new) old ≡ [] = drop_all (length new) old (omega (arith, many)) in
    ap (λ (rest : List Bool). take n (new ++ rest)) none ∙ ap (take n) (append-nil new) ∙ take_all n new (omega (arith, many, all))

-- they are distinct and below the count
abbrev Apart : ℕ → ℕ → Type 0
Apart a b = a ≡ b → ⊥

differ : (x y : ℕ) → not (x == y) ≡ true → x ≡ y → ⊥
differ x y is same = true≢false (sym is ∙ ap not (eq-eqb x y same))

once-apart : (xs : List ℕ) → AllPairs Apart (each_once xs)
once-apart [] = λ i j d h k. absurd (omega (arith, k))
once-apart (x ∷ xs) =
    let other : ℕ → Bool = λ k. not (x == k) in
    AllPairs-cons Apart x (filter other (each_once xs)) (λ k d h same. differ x (get_or (filter other (each_once xs)) k d) (filter_passes other (each_once xs) k d h) same) (AllPairs-filter Apart other (each_once xs) (once-apart xs))

once-all : (P : ℕ → Type 0) (xs : List ℕ) → AllByRecursion P xs → AllByRecursion P (each_once xs)
once-all P [] all = all
once-all P (x ∷ xs) all =
    let other : ℕ → Bool = λ k. not (x == k) in
    (all.0, recursion_from_All P (filter other (each_once xs)) (All-filter other P (each_once xs) (All-from_recursion P (each_once xs) (once-all P xs all.1))))

pub taken-distinct : (found : List ℕ) (n : ℕ) → AreDistinct (taken_in_order found n) n
taken-distinct found n =
    let inside : List ℕ = filter (λ (i : ℕ). ltb i n) found in
    let below : (k d : ℕ) → k < length inside → get_or inside k d < n = λ k d h. let passes : ltb (get_or inside k d) n ≡ true = filter_passes (λ (i : ℕ). ltb i n) found k d h in grind (arith, nat_tests) in
    record {
      below = λ k h. All-from_recursion (λ (i : ℕ). i < n) (each_once inside) (once-all (λ (i : ℕ). i < n) inside (recursion_from_All (λ (i : ℕ). i < n) inside below)) k 0 h;
      apart = λ j k h l same. elim (cases_lt j k) [
        | inl less ↦ absurd (once-apart inside j k 0 less l same)
        | inr from ↦ elim (cases_lt k j) [
          | inl less ↦ absurd (once-apart inside k j 0 less h (sym same))
          | inr to ↦ omega (arith, from, to)
        ]
      ];
    }

-- what isn't below the count may be left out
below-same : (n : ℕ) (xs : List ℕ) → filter (λ (i : ℕ). ltb i n) (filter (λ (i : ℕ). partial_lt (λ x y. Some (nat_cmp x y)) i n) xs) ≡ filter (λ (i : ℕ). ltb i n) xs
below-same n [] = refl
below-same n (x ∷ xs) = elim (cases_lt x n) [
  | inl less ↦
      let passes : partial_lt (λ x y. Some (nat_cmp x y)) x n ≡ true = ap is_lt (sym (nat_cmp_is x n Less less)) in
      rw (passes, lt-ltb x n less) (ap (λ (ys : List ℕ). x ∷ ys) (below-same n xs))
  | inr past ↦
      let fails : partial_lt (λ x y. Some (nat_cmp x y)) x n ≡ false = grind (arith, common_steps) in
      rw (fails, le-ltb x n past) (below-same n xs)
]

pub taken-same : (found given : List ℕ) (n : ℕ) → (given ≡ found) ⊎ (given ≡ filter (λ (i : ℕ). partial_lt (λ x y. Some (nat_cmp x y)) i n) found) → taken_in_order given n ≡ taken_in_order found n
taken-same found given n (inl all) = ap (λ (xs : List ℕ). taken_in_order xs n) all
taken-same found given n (inr some) = ap each_once (ap (filter (λ (i : ℕ). ltb i n)) some ∙ below-same n found)

-- all that passes a test is kept
filter-all : (p : ℕ → Bool) (xs : List ℕ) → ((k : ℕ) → k < length xs → p (get_or xs k 0) ≡ true) → filter p xs ≡ xs
filter-all p [] all = refl
filter-all p (x ∷ xs) all = rw (all 0 (omega arith)) (ap (λ (ys : List ℕ). x ∷ ys) (filter-all p xs (λ k h. all (suc k) (omega (arith, h)))))

-- what differs stays as it is
once-same : (xs : List ℕ) → AllPairs Apart xs → each_once xs ≡ xs
once-same [] apart = refl
once-same (x ∷ xs) apart =
    let rest : each_once xs ≡ xs = once-same xs (λ i j d h k. apart (suc i) (suc j) d (omega (arith, h)) (omega (arith, k))) in
    let differs : (k : ℕ) → k < length xs → not (x == get_or xs k 0) ≡ true = λ k h. ap not (ne_eqb x (get_or xs k 0) (apart 0 (suc k) 0 (omega arith) (omega (arith, h)))) in
    ap (λ (ys : List ℕ). x ∷ filter (λ (k : ℕ). not (x == k)) ys) rest ∙ ap (λ (ys : List ℕ). x ∷ ys) (filter-all (λ (k : ℕ). not (x == k)) xs differs)

pub taken-all : (found : List ℕ) (n : ℕ) → AreDistinct found n → taken_in_order found n ≡ found
taken-all found n once =
    let all : filter (λ (i : ℕ). ltb i n) found ≡ found = filter-all (λ (i : ℕ). ltb i n) found (λ k h. lt-ltb (get_or found k 0) n (once.below k h)) in
    let apart : AllPairs Apart found = λ i j d h k same. absurd (omega (arith, h, once.apart i j (omega (arith, h, k)) k (get_or_default found i 0 d (omega (arith, h, k)) ∙ same ∙ sym (get_or_default found j 0 d k)))) in
    ap each_once all ∙ once-same found apart
