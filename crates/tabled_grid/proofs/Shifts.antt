-- Anchors when a line is put in: one after another in a list, and in the map that it makes.
use Rattle.tabled_grid.proofs.Common.{[], ◌<◌, ◌∷◌, ◌≡◌, ◌≤◌, AllByRecursion, AreAnchors, AreSorted, Axis, Bool, Columns, IsBefore, IsSpan, List, None, Option, Position, Rectangle, Rows, Some, ap, ap₂, arith, cases_Bool, common_steps, filter, get_or, inl, inr, is_some, length, line_of, map, next_line, none-some, rectangle, refl, same_Some, set, shifted_in, shifted_place, suc, unwrap_or, zero, ℕ}
use Rattle.tabled_grid.proofs.Order.{before-less, less-before}
use Rattle.tabled_grid.proofs.SortedEntries.{Below, both, halves, is_less, less}

-- a list whose first k items were changed
abbrev pub first_changed : {X : Type 0} → (X → X) → ℕ → List X → List X
first_changed f zero xs = xs
first_changed f (suc k) [] = []
first_changed f (suc k) (x ∷ xs) = f x ∷ first_changed f k xs

module _ {X : Type 0} (f : X → X) where
  pub length_first_changed : (k : ℕ) (xs : List X) → length (first_changed f k xs) ≡ length xs
  length_first_changed zero xs = refl
  length_first_changed (suc k) [] = refl
  length_first_changed (suc k) (x ∷ xs) = ap suc (length_first_changed k xs)

  pub one_more_changed : (k : ℕ) (xs : List X) (d : X) → k < length xs → set (first_changed f k xs) k (f (get_or (first_changed f k xs) k d)) ≡ first_changed f (suc k) xs
  one_more_changed zero [] d within = absurd (omega arith)
  one_more_changed zero (x ∷ xs) d within = refl
  one_more_changed (suc k) [] d within = refl
  one_more_changed (suc k) (x ∷ xs) d within = ap (λ ys. f x ∷ ys) (one_more_changed k xs d (omega arith))

  pub all_changed : (xs : List X) → first_changed f (length xs) xs ≡ map f xs
  all_changed [] = refl
  all_changed (x ∷ xs) = ap (λ ys. f x ∷ ys) (all_changed xs)

-- the anchor where it is once a line is put in, or where it was if no index is left
abbrev pub shifted_or_kept : Axis → ℕ → Rectangle → Rectangle
shifted_or_kept axis from e = rectangle (unwrap_or (shifted_place axis from e.first) e.first) e.size

abbrev pub has_place : Axis → ℕ → Rectangle → Bool
has_place axis from e = is_some (shifted_place axis from e.first)

-- where a place comes to
pub data Comes (axis : Axis) (from : ℕ) (p q : Position) : Type 0 where
  stays : line_of axis p < from → q ≡ p → Comes axis from p q
  moves : from ≤ line_of axis p → q ≡ next_line axis p → Comes axis from p q

module _ (axis : Axis) (from : ℕ) where
  -- those with an index left, each moved
  pub moved_one_by_one : (es : List Rectangle) → map (shifted_or_kept axis from) (filter (has_place axis from) es) ≡ shifted_in axis from es
  moved_one_by_one [] = refl
  moved_one_by_one (e ∷ es) = once_shifted (shifted_place axis from e.first) refl (moved_one_by_one es)
    where
      once_shifted : (s : Option Position) → shifted_place axis from e.first ≡ s → map (shifted_or_kept axis from) (filter (has_place axis from) es) ≡ shifted_in axis from es → map (shifted_or_kept axis from) (filter (has_place axis from) (e ∷ es)) ≡ shifted_in axis from (e ∷ es)
      once_shifted None is rest = rw is rest
      once_shifted (Some p) is rest = rw is (ap₂ (λ (x : Rectangle) xs. x ∷ xs) (ap (λ s. rectangle (unwrap_or s e.first) e.size) is) rest)

  pub comes : (p q : Position) → shifted_place axis from p ≡ Some q → Comes axis from p q
  comes p q is = grind (arith, common_steps, cases_Bool, same_Some, none-some)

-- places keep their order
next_later : (axis : Axis) (from : ℕ) (p q p' q' : Position) → IsBefore p q → Comes axis from p p' → Comes axis from q q' → IsBefore p' q'
next_later axis from p q p' q' e (stays a is) (stays b js) = rw (is, js) e
next_later Rows from p q p' q' (inl e) (stays a is) (moves b js) = rw (is, js) (inl (omega arith))
next_later Rows from p q p' q' (inr e) (stays a is) (moves b js) = rw (is, js) (inl (omega arith))
next_later Rows from p q p' q' (inl e) (moves a is) (stays b js) = absurd (omega arith)
next_later Rows from p q p' q' (inr e) (moves a is) (stays b js) = absurd (omega arith)
next_later Rows from p q p' q' (inl e) (moves a is) (moves b js) = rw (is, js) (inl (omega arith))
next_later Rows from p q p' q' (inr e) (moves a is) (moves b js) = rw (is, js) (inr (omega arith, e.1))
next_later Columns from p q p' q' (inl e) (stays a is) (moves b js) = rw (is, js) (inl e)
next_later Columns from p q p' q' (inr e) (stays a is) (moves b js) = rw (is, js) (inr (e.0, omega arith))
next_later Columns from p q p' q' (inl e) (moves a is) (stays b js) = rw (is, js) (inl e)
next_later Columns from p q p' q' (inr e) (moves a is) (stays b js) = absurd (omega arith)
next_later Columns from p q p' q' (inl e) (moves a is) (moves b js) = rw (is, js) (inl e)
next_later Columns from p q p' q' (inr e) (moves a is) (moves b js) = rw (is, js) (inr (e.0, omega arith))

module _ (axis : Axis) (from : ℕ) where
  below_shifted : (x y : Position) (es : List Rectangle) → shifted_place axis from x ≡ Some y → Below x es → Below y (shifted_in axis from es)
  below_shifted x y [] is h = tt
  below_shifted x y (e ∷ es) is h = once_shifted (shifted_place axis from e.first) refl (below_shifted x y es is (halves _ _ h).1)
    where
      once_shifted : (s : Option Position) → shifted_place axis from e.first ≡ s → Below y (shifted_in axis from es) → Below y (shifted_in axis from (e ∷ es))
      once_shifted None js rest = rw js rest
      once_shifted (Some p) js rest = rw js (both _ _ (is_less _ (less-before y p (next_later axis from x e.first y p (before-less x e.first (less _ (halves _ _ h).0)) (comes axis from x y is) (comes axis from e.first p js)))) rest)

  pub sorted_shifted : (es : List Rectangle) → AreSorted es → AreSorted (shifted_in axis from es)
  sorted_shifted [] h = tt
  sorted_shifted (e ∷ es) h = once_shifted (shifted_place axis from e.first) refl (sorted_shifted es (halves _ _ h).1)
    where
      once_shifted : (s : Option Position) → shifted_place axis from e.first ≡ s → AreSorted (shifted_in axis from es) → AreSorted (shifted_in axis from (e ∷ es))
      once_shifted None js rest = rw js rest
      once_shifted (Some p) js rest = rw js (both _ _ (below_shifted e.first p es js (halves _ _ h).0) rest)

  sizes_shifted : (es : List Rectangle) → AllByRecursion (λ (e : Rectangle). IsSpan e.size) es → AllByRecursion (λ (e : Rectangle). IsSpan e.size) (shifted_in axis from es)
  sizes_shifted [] h = h
  sizes_shifted (e ∷ es) h = once_shifted (shifted_place axis from e.first) refl (sizes_shifted es h.1)
    where
      once_shifted : (s : Option Position) → shifted_place axis from e.first ≡ s → AllByRecursion (λ (e : Rectangle). IsSpan e.size) (shifted_in axis from es) → AllByRecursion (λ (e : Rectangle). IsSpan e.size) (shifted_in axis from (e ∷ es))
      once_shifted None js rest = rw js rest
      once_shifted (Some p) js rest = rw js (h.0, rest)

  -- anchors that are shifted are anchors
  pub anchors_shifted : (es : List Rectangle) → AreAnchors es → AreAnchors (shifted_in axis from es)
  anchors_shifted es valid = record { sorted = sorted_shifted es valid.sorted; sizes = sizes_shifted es valid.sizes }
