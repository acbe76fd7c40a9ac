-- The order of places: what comparing two of them says, and what comes before the next place.
use Rattle.tabled_grid.proofs.Common.{◌+◌, ◌≡◌, ◌⊎◌, IsBefore, Less, Position, ap, arith, common_steps, inl, inr, place, position_cmp, ranked, ℕ}

pub before-less : (p q : Position) → position_cmp p q ≡ Less → IsBefore p q
before-less p q h = grind (arith, common_steps, ranked)

pub less-before : (p q : Position) → IsBefore p q → position_cmp p q ≡ Less
less-before p q h = grind (arith, common_steps, ranked)

pub before_other : (p q : Position) → IsBefore p q → p ≡ q → ⊥
before_other p q (inl l) same = omega (arith, ap (λ (x : Position). x.row) same)
before_other p q (inr l) same = omega (arith, ap (λ (x : Position). x.col) same)

-- nothing comes before the first place
pub before_first : (p : Position) → IsBefore p (place 0 0) → ⊥
before_first p (inl h) = omega (arith, h)
before_first p (inr h) = omega (arith, h.1)

-- what comes before a place comes before the next one
pub before_more : (i j : ℕ) (p : Position) → IsBefore p (place i j) → IsBefore p (place i (j + 1))
before_more i j p (inl h) = inl h
before_more i j p (inr h) = inr (h.0, omega (arith, h.1))

-- what comes before the next place comes before the place, or is it
pub before_or_at : (i j : ℕ) (p : Position) → IsBefore p (place i (j + 1)) → IsBefore p (place i j) ⊎ (p ≡ place i j)
before_or_at i j p (inl h) = inl (inl h)
before_or_at i j p (inr h) = grind (arith, common_steps)
