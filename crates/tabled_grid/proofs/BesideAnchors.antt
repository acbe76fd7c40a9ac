-- Anchors that stand beside a rectangle are passed over.
use Rattle.tabled_grid.proofs.Common.{[], ◌+◌, ◌<◌, ◌∷◌, ◌≡◌, ◌≤◌, ◌⊎◌, AreSorted, Bool, Equal, Err, In, IsBefore, IsBinarySearchResult, Less, List, Position, Rectangle, and_from, ap, ap₂, arith, cases_lt, common_steps, cond, false, false_from_ne_true, get_or, holds, inl, inr, length, list_all, map, meets, not, not_from_false, place, position_cmp, rectangle, refl, sized, subst, suc, take, true, unless_held, zero, ℕ}
use Rattle.tabled_grid.proofs.Rectangles.{holds-from, holds-true, meets-true}
use Rattle.tabled_grid.proofs.Order.{before-less}
use Rattle.tabled_grid.proofs.SortedEntries.{Below, below_at, halves, less, positions_exact, searchable}

-- of anchors in order one before another comes before it
pub before : (es : List Rectangle) (j i : ℕ) (d : Rectangle) → AreSorted es → j < i → i < length es → position_cmp (get_or es j d).first (get_or es i d).first ≡ Less
before [] j i d up h within = absurd (omega arith)
before (e ∷ es) zero zero d up h within = absurd (omega arith)
before (e ∷ es) zero (suc i) d up h within = below_at e.first es i d (halves _ _ up).0 (omega arith)
before (e ∷ es) (suc j) zero d up h within = absurd (omega arith)
before (e ∷ es) (suc j) (suc i) d up h within = before es j i d (halves _ _ up).1 (omega arith) (omega arith)

-- what stands before the place that a search finds, or where it would stand, comes before that place
pub before_found : (es : List Rectangle) (p : Position) (i : ℕ) → AreSorted es → i < length es → ((d : Rectangle) → position_cmp (get_or es i d).first p ≡ Equal) → (j : ℕ) (d : Rectangle) → j < i → position_cmp (get_or es j d).first p ≡ Less
before_found es p i up within at j d h = subst (λ q. position_cmp (get_or es j d).first q ≡ Less) (positions_exact _ _ (at d)) (before es j i d up h within)

pub before_missed : (es : List Rectangle) (p : Position) (i : ℕ) → AreSorted es → IsBinarySearchResult (λ (e : Rectangle). position_cmp e.first p) es (Err i) → (j : ℕ) (d : Rectangle) → j < i → position_cmp (get_or es j d).first p ≡ Less
before_missed es p i up at j d h = (at (searchable es p up)).0 j d (omega arith) h

-- the row that a rectangle reaches next, from a place outside of it on
pub record Reaches (by : Rectangle) (pos : Position) (row : ℕ) : Type 0 where
  pub here : pos.col < by.first.col → row ≡ pos.row
  pub next : by.first.col ≤ pos.col → row ≤ pos.row + 1

pub reaches_here : (by : Rectangle) (pos : Position) (row : ℕ) → pos.col < by.first.col → row ≡ pos.row → Reaches by pos row
reaches_here by pos row l is = record { here = λ h. is; next = λ h. absurd (omega arith) }

pub reaches_next : (by : Rectangle) (pos : Position) (row : ℕ) → by.first.col ≤ pos.col → row ≤ pos.row + 1 → Reaches by pos row
reaches_next by pos row r is = record { here = λ h. absurd (omega arith); next = λ h. is }

module _ (by : Rectangle) (pos : Position) (row : ℕ) (reaches : Reaches by pos row) (out : holds by pos ≡ false) where
  out_of : (p : Position) → IsBefore pos p → IsBefore p (place row by.first.col) → (pos.col < by.first.col) ⊎ (by.first.col ≤ pos.col) → In by p → ⊥
  out_of p after until (inl l) h = grind (arith, common_steps)
  out_of p after until (inr r) h = grind (arith, common_steps, holds-from)

  pub passed_over : (es : List Rectangle) (i : ℕ) → Below pos es → ((j : ℕ) (d : Rectangle) → j < i → position_cmp (get_or es j d).first (place row by.first.col) ≡ Less) → i ≤ length es → map (unless_held by) (take i es) ≡ take i es
  passed_over [] zero below until within = refl
  passed_over [] (suc i) below until within = refl
  passed_over (e ∷ es) zero below until within = refl
  passed_over (e ∷ es) (suc i) below until within =
      let after = before-less pos e.first (less _ (halves _ _ below).0) in
      let stop = before-less e.first (place row by.first.col) (until 0 e (omega arith)) in
      let free : holds by e.first ≡ false = false_from_ne_true _ (λ t. out_of e.first after stop (cases_lt pos.col by.first.col) (holds-true by e.first t)) in
      ap₂ (λ x xs. x ∷ xs) (ap (λ (b : Bool). cond b (rectangle e.first (sized 0 0)) e) free) (passed_over es i (halves _ _ below).1 (λ j d h. until (suc j) d (omega arith)) (omega arith))

-- what stands in a row after a place that is right of a rectangle doesn't meet it
module _ (from : Rectangle) (pos : Position) (row : ℕ) (next : row ≤ pos.row + 1) (right : from.first.col + from.size.width ≤ pos.col) where
  pub apart_beyond : (es : List Rectangle) (i : ℕ) → Below pos es → ((j : ℕ) (d : Rectangle) → j < i → position_cmp (get_or es j d).first (place row 0) ≡ Less) → i ≤ length es → list_all (λ (e : Rectangle). not (meets from e)) (take i es) ≡ true
  apart_beyond [] zero below until within = refl
  apart_beyond [] (suc i) below until within = refl
  apart_beyond (e ∷ es) zero below until within = refl
  apart_beyond (e ∷ es) (suc i) below until within =
      and_from _ _ (not_from_false _ (false_from_ne_true _ (λ t. out (before-less pos e.first (less _ (halves _ _ below).0)) (before-less e.first (place row 0) (until 0 e (omega arith))) (meets-true from e t).right)))
      (apart_beyond es i (halves _ _ below).1 (λ j d h. until (suc j) d (omega arith)) (omega arith))
    where
      out : IsBefore pos e.first → IsBefore e.first (place row 0) → e.first.col < from.first.col + from.size.width → ⊥
      out (inl a) (inl u) h = omega (arith, a, u)
      out (inl a) (inr u) h = omega (arith, u.1)
      out (inr a) u h = omega (arith, a.1)
