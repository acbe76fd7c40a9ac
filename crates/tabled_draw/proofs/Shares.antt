-- Sizes that grow by what is lacking.
use Rattle.tabled_draw.proofs.Common.{List, add-one, add-zero, add_assoc, ap, ap₂, arith, cases_eq, cases_lt, cond, cond-false, ext_get_or, false, get_or, get_or-set_other, get_or-set_same, get_or_past, grown_sizes, inl, inr, is_in_range, length, length-set, nat_tests, pad, refl, room, set, share, start_of, subst, suc, sym, zero, ℕ, ◌%◌, ◌*◌, ◌+◌, ◌-◌, ◌/◌, ◌<◌, ◌==◌, ◌∙◌, ◌≡◌, ◌≢◌, ◌≤◌, ◌⊎◌}
use Rattle.std.proofs.Math.Nat.{div-add-mod}
use Rattle.tabled_draw.proofs.Each.{get-singles, length-singles}
use Rattle.tabled_grid.specs.declared.records.axis.Axis.{Axis}

-- ---- starts and rooms

module _ (axis : Axis) (lines : ℕ → ℕ) where
  -- n sizes from one on, with the line before each
  pub span : List ℕ → ℕ → ℕ → ℕ
  span s at zero = 0
  span s at (suc n) = span s at n + (lines (at + n) + get_or s (at + n) 0 + pad axis)

  pub start-more : (s : List ℕ) (k : ℕ) → start_of axis lines s (k + 1) ≡ start_of axis lines s k + (lines k + get_or s k 0 + pad axis)
  start-more s k = ap (start_of axis lines s) (add-one k)

  pub start-span : (s : List ℕ) (at n : ℕ) → start_of axis lines s (at + n) ≡ start_of axis lines s at + span s at n
  unfolding span
  start-span s at zero = ap (start_of axis lines s) (add-zero at) ∙ sym (add-zero (start_of axis lines s at))
  start-span s at (suc n) =
      let so_far : start_of axis lines s (at + n) ≡ start_of axis lines s at + span s at n = start-span s at n in
      let more : start_of axis lines s (at + n + 1) ≡ start_of axis lines s (at + n) + (lines (at + n) + get_or s (at + n) 0 + pad axis) = start-more s (at + n) in
      let same : at + suc n ≡ at + n + 1 = omega arith in
      ap (start_of axis lines s) same ∙ more ∙ ap (λ x. x + (lines (at + n) + get_or s (at + n) 0 + pad axis)) so_far ∙ add_assoc (start_of axis lines s at) (span s at n) (lines (at + n) + get_or s (at + n) 0 + pad axis)

  pub room-span : (s : List ℕ) (at n : ℕ) → room axis lines s at n ≡ span s at n - lines at - pad axis
  room-span s at n = let e : start_of axis lines s (at + n) ≡ start_of axis lines s at + span s at n = start-span s at n in omega arith

  pub span-some : (s : List ℕ) (at n : ℕ) → 1 ≤ n → lines at + pad axis ≤ span s at n
  unfolding span
  span-some s at zero h = absurd (omega arith)
  span-some s at (suc zero) h = let e : lines (at + 0) ≡ lines at = ap lines (add-zero at) in omega arith
  span-some s at (suc (suc n)) h = let so_far : lines at + pad axis ≤ span s at (suc n) = span-some s at (suc n) (omega arith) in omega arith

  -- the room in one size
  pub room-one : (s : List ℕ) (at : ℕ) → room axis lines s at 1 ≡ get_or s at 0
  unfolding span
  room-one s at =
      let e : room axis lines s at 1 ≡ 0 + (lines (at + 0) + get_or s (at + 0) 0 + pad axis) - lines at - pad axis = room-span s at 1 in
      let line : lines (at + 0) ≡ lines at = ap lines (add-zero at) in
      let same : get_or s (at + 0) 0 ≡ get_or s at 0 = ap (λ k. get_or s k 0) (add-zero at) in
      omega arith

  -- where a room ends
  pub room-end : (s : List ℕ) (at n : ℕ) → 1 ≤ n → start_of axis lines s (at + n) ≡ start_of axis lines s at + (lines at + room axis lines s at n + pad axis)
  room-end s at n some =
      let a : start_of axis lines s (at + n) ≡ start_of axis lines s at + span s at n = start-span s at n in
      let b : room axis lines s at n ≡ span s at n - lines at - pad axis = room-span s at n in
      let c : lines at + pad axis ≤ span s at n = span-some s at n some in
      omega arith

-- ---- larger sizes

pub record Larger (s t : List ℕ) : Type 0 where
  pub long : length t ≡ length s
  pub each : (k : ℕ) → get_or s k 0 ≤ get_or t k 0

pub larger-trans : (s t u : List ℕ) → Larger s t → Larger t u → Larger s u
larger-trans s t u a b = record { long = b.long ∙ a.long; each = λ k. omega (arith, a.each k, b.each k) }

pub span-larger : (axis : Axis) (lines : ℕ → ℕ) (s t : List ℕ) → Larger s t → (at n : ℕ) → span axis lines s at n ≤ span axis lines t at n
unfolding span
span-larger axis lines s t l at zero = omega arith
span-larger axis lines s t l at (suc n) = omega (arith, span-larger axis lines s t l at n, l.each (at + n))

-- ---- shares

-- one share and the rest
shared : ℕ → ℕ → ℕ → ℕ → ℕ → ℕ
shared q r at n k = cond (is_in_range k at n) (q + cond (k == at) r 0) 0

shared-first : (q r at n : ℕ) → 1 ≤ n → shared q r at n (at + 0) ≡ q + r
unfolding shared
shared-first q r at n some = grind (arith, nat_tests)

shared-other : (q r at n j : ℕ) → suc j < n → shared q r at n (at + suc j) ≡ q
unfolding shared
shared-other q r at n j h = grind (arith, nat_tests)

shared-low : (q r at n k : ℕ) → shared q r at n k ≤ q + r
unfolding shared
shared-low q r at n k = grind (arith, nat_tests)

-- n times a share
times : ℕ → ℕ → ℕ
times zero q = 0
times (suc n) q = times n q + q

times-is : (n q : ℕ) → times n q ≡ n * q
unfolding times
times-is zero q = omega arith
times-is (suc n) q = let so_far : times n q ≡ n * q = times-is n q in omega arith

all-shares : (lack n : ℕ) → times n (lack / n) + lack % n ≡ lack
all-shares lack n = ap (λ x. x + lack % n) (times-is n (lack / n)) ∙ div-add-mod lack n

share-one : (n q : ℕ) → 1 ≤ n → q ≤ times n q
unfolding times
share-one zero q h = absurd (omega arith)
share-one (suc n) q h = omega arith

pub share-low : (lack at n k : ℕ) → 1 ≤ n → share lack at n k ≤ lack
unfolding shared
share-low lack at n k some =
    let low : share lack at n k ≤ lack / n + lack % n = shared-low (lack / n) (lack % n) at n k in
    let all : times n (lack / n) + lack % n ≡ lack = all-shares lack n in
    let one : lack / n ≤ times n (lack / n) = share-one n (lack / n) some in
    omega arith

pub share-outside : (lack at n k : ℕ) → is_in_range k at n ≡ false → share lack at n k ≡ 0
share-outside lack at n k out = cond-false _ _ _ out

-- ---- sizes that have grown

module _ (axis : Axis) (lines : ℕ → ℕ) (s : List ℕ) (at n need : ℕ) where
  abbrev lack : ℕ
  lack = need - room axis lines s at n

  abbrev grown : List ℕ
  grown = grown_sizes axis lines s at n need

  pub length-grown : length grown ≡ length s
  length-grown = length-singles (λ k. get_or s k 0 + share lack at n k) (length s)

  pub get-grown : (k : ℕ) → k < length s → get_or grown k 0 ≡ get_or s k 0 + share lack at n k
  get-grown k h = get-singles (λ k. get_or s k 0 + share lack at n k) (length s) k 0 h

  pub grown-larger : Larger s grown
  grown-larger = record { long = length-grown; each = λ k. elim (cases_lt k (length s)) [ inl less ↦ omega (arith, get-grown k less) | inr past ↦ omega (arith, get_or_past s k 0 past) ] }

  -- the first j of n sizes have got their shares
  span-grown : (j : ℕ) → j < n → at + n ≤ length s → span axis lines grown at (suc j) ≡ span axis lines s at (suc j) + times (suc j) (lack / n) + lack % n
  unfolding span times shared
  span-grown zero h inside =
      let now : get_or grown (at + 0) 0 ≡ get_or s (at + 0) 0 + share lack at n (at + 0) = get-grown (at + 0) (omega arith) in
      let got : share lack at n (at + 0) ≡ lack / n + lack % n = shared-first (lack / n) (lack % n) at n (omega arith) in
      omega arith
  span-grown (suc j) h inside =
      let so_far : span axis lines grown at (suc j) ≡ span axis lines s at (suc j) + times (suc j) (lack / n) + lack % n = span-grown j (omega arith) inside in
      let now : get_or grown (at + suc j) 0 ≡ get_or s (at + suc j) 0 + share lack at n (at + suc j) = get-grown (at + suc j) (omega arith) in
      let got : share lack at n (at + suc j) ≡ lack / n = shared-other (lack / n) (lack % n) at n j h in
      omega arith

  -- sizes that have grown by what they lack have room enough
  pub grown-enough : 1 ≤ n → at + n ≤ length s → need ≤ span axis lines grown at n - lines at - pad axis
  grown-enough some inside = enough-of n refl some
    where
      enough-of : (m : ℕ) → n ≡ m → 1 ≤ m → need ≤ span axis lines grown at n - lines at - pad axis
      enough-of zero is h = absurd (omega arith)
      enough-of (suc j) is h =
          let all : span axis lines grown at n ≡ span axis lines s at n + times n (lack / n) + lack % n = subst (λ m. span axis lines grown at m ≡ span axis lines s at m + times m (lack / n) + lack % n) (sym is) (span-grown j (omega arith) inside) in
          let shares : times n (lack / n) + lack % n ≡ lack = all-shares lack n in
          let before : room axis lines s at n ≡ span axis lines s at n - lines at - pad axis = room-span axis lines s at n in
          let least : lines at + pad axis ≤ span axis lines s at n = span-some axis lines s at n some in
          omega arith

-- ---- one size left out

module _ (axis : Axis) (lines : ℕ → ℕ) (s : List ℕ) (k : ℕ) where
  span-before : (at n : ℕ) → at + n ≤ k → span axis lines s at n ≡ span axis lines (set s k 0) at n
  unfolding span
  span-before at zero h = refl
  span-before at (suc n) h =
      let so_far : span axis lines s at n ≡ span axis lines (set s k 0) at n = span-before at n (omega arith) in
      let other : get_or (set s k 0) (at + n) 0 ≡ get_or s (at + n) 0 = get_or-set_other s k (at + n) 0 0 (λ e. absurd (omega (arith, e, h))) in
      omega arith

  span-without : (at n : ℕ) → k < length s → at ≤ k → k < at + n → span axis lines s at n ≡ span axis lines (set s k 0) at n + get_or s k 0
  unfolding span
  span-without at zero inside low high = absurd (omega arith)
  span-without at (suc n) inside low high = elim (cases_eq k (at + n)) [
    | inl same ↦
        let before : span axis lines s at n ≡ span axis lines (set s k 0) at n = span-before at n (omega arith) in
        let none : get_or (set s k 0) (at + n) 0 ≡ 0 = ap (get-at (set s k 0)) (sym same) ∙ get_or-set_same s k 0 0 inside in
        let here : get_or s (at + n) 0 ≡ get_or s k 0 = ap (get-at s) (sym same) in
        omega arith
    | inr other ↦
        let before : span axis lines s at n ≡ span axis lines (set s k 0) at n + get_or s k 0 = span-without at n inside low (lt-from other) in
        let same : get_or (set s k 0) (at + n) 0 ≡ get_or s (at + n) 0 = get_or-set_other s k (at + n) 0 0 (λ e. other (sym e)) in
        omega arith
  ]
    where
      get-at : List ℕ → ℕ → ℕ
      get-at xs i = get_or xs i 0

      lt-from : k ≢ at + n → k < at + n
      lt-from other = grind (arith, nat_tests)

  -- a room, as far as it doesn't come from one of its sizes
  pub room-without : (at n : ℕ) → k < length s → at ≤ k → k < at + n → room axis lines s at n ≡ room axis lines (set s k 0) at n + get_or s k 0
  room-without at n inside low high =
      let a : room axis lines s at n ≡ span axis lines s at n - lines at - pad axis = room-span axis lines s at n in
      let b : room axis lines (set s k 0) at n ≡ span axis lines (set s k 0) at n - lines at - pad axis = room-span axis lines (set s k 0) at n in
      let c : span axis lines s at n ≡ span axis lines (set s k 0) at n + get_or s k 0 = span-without at n inside low high in
      let d : lines at + pad axis ≤ span axis lines (set s k 0) at n = span-some axis lines (set s k 0) at n (omega arith) in
      omega arith

  without-larger : (t : List ℕ) → Larger s t → Larger (set s k 0) (set t k 0)
  without-larger t larger = record {
    long = length-set t k 0 ∙ larger.long ∙ sym (length-set s k 0);
    each = λ i. larger-at i (cases_eq i k);
  }
    where
      larger-at : (i : ℕ) → (i ≡ k) ⊎ (i ≢ k) → get_or (set s k 0) i 0 ≤ get_or (set t k 0) i 0
      larger-at i (inr other) = omega (arith, get_or-set_other s k i 0 0 other, get_or-set_other t k i 0 0 other, larger.each i)
      larger-at i (inl same) = within i same (cases_lt k (length s))
        where
          within : (i : ℕ) → i ≡ k → (k < length s) ⊎ (length s ≤ k) → get_or (set s k 0) i 0 ≤ get_or (set t k 0) i 0
          within i same (inl less) =
              let zero : get_or (set s k 0) i 0 ≡ 0 = ap (λ j. get_or (set s k 0) j 0) same ∙ get_or-set_same s k 0 0 less in
              omega arith
          within i same (inr past) =
              let zero : get_or (set s k 0) i 0 ≡ 0 = get_or_past (set s k 0) i 0 (omega (arith, length-set s k 0, past, same)) in
              omega arith

  pub room-larger : (t : List ℕ) → Larger s t → (at n : ℕ) → room axis lines (set s k 0) at n ≤ room axis lines (set t k 0) at n
  room-larger t larger at n =
      let a : room axis lines (set s k 0) at n ≡ span axis lines (set s k 0) at n - lines at - pad axis = room-span axis lines (set s k 0) at n in
      let b : room axis lines (set t k 0) at n ≡ span axis lines (set t k 0) at n - lines at - pad axis = room-span axis lines (set t k 0) at n in
      let c : span axis lines (set s k 0) at n ≤ span axis lines (set t k 0) at n = span-larger axis lines (set s k 0) (set t k 0) (without-larger t larger) at n in
      omega arith

-- ---- shares that are added one after another

pub spread-none : (old : List ℕ) (at q i : ℕ) → get_or old i 0 ≡ get_or old i 0 + cond (is_in_range i at (at - at)) q 0
spread-none old at q i = omega (arith, none)
  where
    none : cond (is_in_range i at (at - at)) q 0 ≡ 0
    none = grind (arith, nat_tests)

pub spread-more : (old s : List ℕ) (at k q v : ℕ) → at ≤ k → k < length s → ((i : ℕ) → get_or s i 0 ≡ get_or old i 0 + cond (is_in_range i at (k - at)) q 0) → v ≡ get_or s k 0 + q → (i : ℕ) → get_or (set s k v) i 0 ≡ get_or old i 0 + cond (is_in_range i at (k + 1 - at)) q 0
spread-more old s at k q v low inside was is i = elim (cases_eq i k) [
  | inl same ↦
      let set-here : get_or (set s k v) k 0 ≡ v = get_or-set_same s k v 0 inside in
      let all : get_or (set s k v) k 0 ≡ get_or old k 0 + cond (is_in_range k at (k + 1 - at)) q 0 = omega (arith, set-here, was k, here, now, is) in
      subst (λ j. get_or (set s k v) j 0 ≡ get_or old j 0 + cond (is_in_range j at (k + 1 - at)) q 0) (sym same) all
  | inr other ↦ omega (arith, get_or-set_other s k i v 0 other, was i, apart other)
]
  where
    here : cond (is_in_range k at (k - at)) q 0 ≡ 0
    here = grind (arith, nat_tests)

    now : cond (is_in_range k at (k + 1 - at)) q 0 ≡ q
    now = grind (arith, nat_tests)

    apart : i ≢ k → cond (is_in_range i at (k + 1 - at)) q 0 ≡ cond (is_in_range i at (k - at)) q 0
    apart other = grind (arith, nat_tests)

pub spread-all : (axis : Axis) (lines : ℕ → ℕ) (old s : List ℕ) (at n need lack q r v : ℕ) → lack ≡ need - room axis lines old at n → q ≡ lack / n → r ≡ lack % n → 1 ≤ n → at + n ≤ length old → length s ≡ length old → ((i : ℕ) → get_or s i 0 ≡ get_or old i 0 + cond (is_in_range i at n) q 0) → v ≡ get_or s at 0 + r → set s at v ≡ grown_sizes axis lines old at n need
unfolding shared
spread-all axis lines old s at n need lack q r v lacks one rest some inside long was is = ext_get_or 0 (set s at v) (grown_sizes axis lines old at n need) (length-set s at v ∙ long ∙ sym (length-grown axis lines old at n need)) (λ i h. same i (omega (arith, h, length-set s at v, long)))
  where
    first : cond (is_in_range at at n) q 0 ≡ q
    first = grind (arith, nat_tests)

    shared-at : shared q r at n at ≡ q + r
    shared-at = ap (shared q r at n) (sym (add-zero at)) ∙ shared-first q r at n some

    shared-apart : (i : ℕ) → i ≢ at → shared q r at n i ≡ cond (is_in_range i at n) q 0
    shared-apart i other = grind (arith, nat_tests)

    parts : (i : ℕ) → share (need - room axis lines old at n) at n i ≡ shared q r at n i
    parts i = sym (ap₂ (λ a b. shared a b at n i) (one ∙ ap (λ l. l / n) lacks) (rest ∙ ap (λ l. l % n) lacks))

    here : get_or (set s at v) at 0 ≡ get_or old at 0 + shared q r at n at
    here = omega (arith, get_or-set_same s at v 0 (omega (arith, inside, long, some)), was at, first, shared-at, is)

    same : (i : ℕ) → i < length old → get_or (set s at v) i 0 ≡ get_or (grown_sizes axis lines old at n need) i 0
    same i h =
        let grown : get_or (set s at v) i 0 ≡ get_or old i 0 + shared q r at n i = elim (cases_eq i at) [
          | inl first_one ↦ subst (λ j. get_or (set s at v) j 0 ≡ get_or old j 0 + shared q r at n j) (sym first_one) here
          | inr other ↦ omega (arith, get_or-set_other s at i v 0 other, was i, shared-apart i other)
        ] in
        grown ∙ ap (λ x. get_or old i 0 + x) (sym (parts i)) ∙ sym (get-grown axis lines old at n need i h)
