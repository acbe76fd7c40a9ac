-- Cells of a square swapped across the diagonal, row by row.
use Rattle.tabled_grid.proofs.Common.{◌+◌, ◌<◌, ◌≡◌, ◌≢◌, ◌≤◌, ◌⊎◌, IsBefore, IsFrom, arith, cases_eq, cases_lt, common_steps, inl, inr, place, ℕ}
use Rattle.tabled_grid.proofs.SwappedCells.{Swaps}

-- of a square, the cells before a place of its upper half, row by row, have changed places with those across the diagonal
pub record HalfTransposed {B : Type 0} (old new : ℕ → ℕ → B) (size i j : ℕ) : Type 0 where
  pub done : (a b : ℕ) → a ≤ b → b < size → IsBefore (place a b) (place i j) → (new a b ≡ old b a) × (new b a ≡ old a b)
  pub left : (a b : ℕ) → a ≤ b → IsFrom (place a b) (place i j) → (new a b ≡ old a b) × (new b a ≡ old b a)

module _ {B : Type 0} (old : ℕ → ℕ → B) where
  pub half_none : (size : ℕ) → HalfTransposed old old size 0 0
  half_none size = grind (arith, common_steps)

  -- the cell on the diagonal stays
  pub half_begun : (cur : ℕ → ℕ → B) (size i next : ℕ) → next ≡ i + 1 → HalfTransposed old cur size i i → HalfTransposed old cur size i next
  half_begun cur size i next e t = grind (arith, common_steps, cases_eq)

  -- one pair more
  module _ (cur new : ℕ → ℕ → B) (size i j next : ℕ) (e : next ≡ j + 1) (h : i < j) (t : HalfTransposed old cur size i j) (s : Swaps cur new i j j i) where
    untouched_in : (a b : ℕ) → (a ≡ i → b ≢ j) → (a ≡ j → b ≢ i) → (a ≡ i) ⊎ (a ≢ i) → (a ≡ j) ⊎ (a ≢ j) → new a b ≡ cur a b
    untouched_in a b first second (inl is) at_j = rw is (s.in_here b (first is))
    untouched_in a b first second (inr other) (inl is) = rw is (s.in_there b (second is))
    untouched_in a b first second (inr other) (inr apart) = s.elsewhere a b other apart

    untouched : (a b : ℕ) → (a ≡ i → b ≢ j) → (a ≡ j → b ≢ i) → new a b ≡ cur a b
    untouched a b first second = untouched_in a b first second (cases_eq a i) (cases_eq a j)

    -- both of a pair that isn't this one
    pair_untouched : (a b : ℕ) → a ≤ b → (a ≡ i → b ≢ j) → (new a b ≡ cur a b) × (new b a ≡ cur b a)
    pair_untouched a b k first = grind (arith, common_steps, untouched)

    earlier : (a b : ℕ) → (a ≡ i → b ≢ j) → IsBefore (place a b) (place i next) → IsBefore (place a b) (place i j)
    earlier a b first (inl less) = inl less
    earlier a b first (inr (at, below)) = let apart = first at in inr (at, omega (arith, apart, below, e))

    done_at : (a b : ℕ) → a ≤ b → b < size → IsBefore (place a b) (place i next) → (a ≡ i) ⊎ (a ≢ i) → (b ≡ j) ⊎ (b ≢ j) → (new a b ≡ old b a) × (new b a ≡ old a b)
    done_at a b k m before (inl at_a) (inl at_b) = grind (arith, common_steps)
    done_at a b k m before (inl at_a) (inr off_b) = grind (arith, common_steps, pair_untouched, earlier)
    done_at a b k m before (inr off_a) at_b = grind (arith, common_steps, pair_untouched, earlier)

    left_at : (a b : ℕ) → a ≤ b → IsFrom (place a b) (place i next) → (new a b ≡ old a b) × (new b a ≡ old b a)
    left_at a b k (inl less) = grind (arith, common_steps, pair_untouched)
    left_at a b k (inr (at, from)) = grind (arith, common_steps, pair_untouched)

    pub half_more : HalfTransposed old new size i next
    half_more = record { done = λ a b k m before. done_at a b k m before (cases_eq a i) (cases_eq b j); left = left_at }

  -- one row more
  pub half_row : (cur : ℕ → ℕ → B) (size i j next : ℕ) → next ≡ i + 1 → size ≤ j → HalfTransposed old cur size i j → HalfTransposed old cur size next next
  half_row cur size i j next e h t = grind (arith, common_steps, cases_lt)

  pub all_transposed : (new : ℕ → ℕ → B) (size i : ℕ) → size ≤ i → HalfTransposed old new size i i → (a b : ℕ) → a < size → b < size → new a b ≡ old b a
  all_transposed new size i h t a b k l = grind (arith, common_steps, cases_lt)
