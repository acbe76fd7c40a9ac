-- Indexes, put in order.
use Rattle.std.specs.Prelude.{◌≡◌, ◌<◌, ◌≤◌, ℕ, ◌-◌, Bool, if◌then◌else◌, List, [], ◌∷◌, ◌++◌, false, min, slice_index_or}
use Rattle.std.specs.List.{range_with_len}
use Rattle.std.specs.Ordering.{is_gt, is_lt, nat_cmp, ordering_then}
use Rattle.std.specs.declared.cmp.Ordering.{Ordering}
use Rattle.std.specs.declared.cmp.Ordering.TheVariants.{Equal}

-- an index among others, in front of the first that it comes before
abbrev pub put_in : (ℕ → ℕ → Bool) → ℕ → List ℕ → List ℕ
put_in before i [] = i ∷ []
put_in before i (j ∷ js) = if before i j then i ∷ j ∷ js else j ∷ put_in before i js

-- indexes in order
abbrev pub in_order : (ℕ → ℕ → Bool) → List ℕ → List ℕ
in_order before [] = []
in_order before (i ∷ is) = put_in before i (in_order before is)

-- by an order, and where that is equal, by the indexes themselves
abbrev pub comes_before : (ℕ → ℕ → Ordering) → ℕ → ℕ → Bool
comes_before cmp i j = is_lt (ordering_then (cmp i j) (nat_cmp i j))

-- the indexes below n: those below another one as they are, and the others in order
abbrev pub sorted_from : ℕ → (ℕ → ℕ → Ordering) → ℕ → List ℕ
sorted_from from cmp n = range_with_len 0 (min from n) ++ in_order (comes_before cmp) (range_with_len from (n - from))

-- n indexes: those below one stay, and from it on they are in order, equal ones as they rise
pub record AreSorted (from : ℕ) (cmp : ℕ → ℕ → Ordering) (n : ℕ) (sorted : List ℕ) : Type 0 where
  pub stay : (i : ℕ) → i < from → i < n → slice_index_or sorted i 0 ≡ i
  pub in_order : (i j : ℕ) → from ≤ i → i < j → j < n → is_gt (cmp (slice_index_or sorted i 0) (slice_index_or sorted j 0)) ≡ false
  pub stable : (i j : ℕ) → from ≤ i → i < j → j < n → cmp (slice_index_or sorted i 0) (slice_index_or sorted j 0) ≡ Equal → slice_index_or sorted i 0 < slice_index_or sorted j 0
