-- Ranges that are cut at a limit, and marks of what is located.
use Rattle.tabled_select.proofs.Common.{[], ◌+◌, ◌-◌, ◌<◌, ◌==◌, ◌||◌, ◌∷◌, ◌≡◌, ◌≤◌, AllOrThose, Bool, Less, List, Some, TellsLocated, ap, arith, cases_lt, common_steps, false, filter, inl, inr, is_located, is_lt, min, nat_cmp, ne_eqb, range_with_len, refl, suc, sym, true, zero, ℕ}
use Rattle.std.specs.Cmp.{nat_cmp_is}
use Rattle.std.specs.Ordering.{partial_lt}

-- an index is below a limit
abbrev pub below : ℕ → ℕ → Bool
below limit i = partial_lt (λ x y. Some (nat_cmp x y)) i limit

below-true : (i limit : ℕ) → i < limit → below limit i ≡ true
below-true i limit h = ap is_lt (sym (nat_cmp_is i limit Less h))

below-false : (i limit : ℕ) → limit ≤ i → below limit i ≡ false
below-false i limit h = grind (arith, common_steps)

cut-from : (n a limit : ℕ) → range_with_len a (min (a + n) limit - a) ≡ filter (below limit) (range_with_len a n)
cut-from zero a limit = let none : min (a + 0) limit - a ≡ 0 = omega arith in rw none refl
cut-from (suc n) a limit = elim (cases_lt a limit) [
  | inl h ↦ let one : min (a + suc n) limit - a ≡ suc (min (a + 1 + n) limit - (a + 1)) = omega (arith, h) in rw (one, below-true a limit h) (ap (λ rest. a ∷ rest) (cut-from n (a + 1) limit))
  | inr h ↦
      let none : min (a + suc n) limit - a ≡ 0 = omega (arith, h) in
      let none_after : min (a + 1 + n) limit - (a + 1) ≡ 0 = omega (arith, h) in
      rw (none, below-false a limit h) (rw none_after at (cut-from n (a + 1) limit))
]

-- a range whose end is cut at a limit has the indexes below it
pub range-cut : (a e limit : ℕ) → range_with_len a (min e limit - a) ≡ filter (below limit) (range_with_len a (e - a))
range-cut a e limit = let same : min (a + (e - a)) limit - a ≡ min e limit - a = omega arith in rw same at (cut-from (e - a) a limit)

located-below : (found : List ℕ) (count i : ℕ) → i < count → is_located (filter (below count) found) i ≡ is_located found i
located-below [] count i h = refl
located-below (x ∷ found) count i h = elim (cases_lt x count) [
  | inl k ↦ rw (below-true x count k) (ap (λ b. (x == i) || b) (located-below found count i h))
  | inr k ↦ let other : (x == i) ≡ false = ne_eqb x i (λ e. absurd (omega (arith, h, k, e))) in rw (below-false x count k, other) (located-below found count i h)
]

-- what isn't below the count may be left out
pub all-told : (found kept : List ℕ) (count : ℕ) (marks : List Bool) → AllOrThose (below count) found kept → TellsLocated kept count marks → TellsLocated found count marks
all-told found kept count marks (inl e) told = rw e at told
all-told found kept count marks (inr e) told = grind (arith, common_steps, located-below)
