-- Rows of owners of which each begins at its own place.
use Rattle.std.proofs.Common.{le-ltb}
use Rattle.tabled_draw.proofs.Common.{AreUnmerged, BeginHere, IsOwnerRow, List, None, Option, Position, Rectangle, Some, SpanMap, ap, ap₂, arith, begins_at, cases_eq, cases_lt, differ, false, get_or, inl, inr, lt-ltb, nat_lt, nat_tests, not, place, rectangles, refl, same_place, same_place-true, subst, sym, true, ℕ, ◌+◌, ◌-◌, ◌<◌, ◌∙◌, ◌≡◌, ◌≤◌, false≢true}
use Rattle.tabled_draw.proofs.Arms.{same-arms}
use Rattle.tabled_draw.proofs.Owned.{owner-left, owner-right}

-- owners that begin at two places differ
differ-apart : (a b : Option Rectangle) (p q : Position) → begins_at a p ≡ true → begins_at b q ≡ true → same_place p q ≡ false → differ a b ≡ true
differ-apart None b p q first second other = absurd (false≢true first)
differ-apart (Some a) None p q first second other = refl
differ-apart (Some a) (Some b) p q first second other = ap not (ap₂ same_place (same_place-true a.first p first) (same_place-true b.first q second) ∙ other)

differ-after : (a b : Option Rectangle) (p : Position) → begins_at a p ≡ true → b ≡ None → differ a b ≡ true
differ-after None b p begins none = absurd (false≢true begins)
differ-after (Some a) b p begins none = ap (differ (Some a)) none

differ-before : (a b : Option Rectangle) (p : Position) → begins_at b p ≡ true → a ≡ None → differ a b ≡ true
differ-before a None p begins none = absurd (false≢true begins)
differ-before a (Some b) p begins none = ap (λ x. differ x (Some b)) none

other-column : (i j k : ℕ) → j < k → same_place (place i j) (place i k) ≡ false
other-column i j k less = grind (arith, nat_tests)

other-row : (h i j : ℕ) → h < i → same_place (place h j) (place i j) ≡ false
other-row h i j less = grind (arith, nat_tests)

module _ {rows columns : ℕ} {es : List Rectangle} (i : ℕ) {row : List (Option Rectangle)} (is : IsOwnerRow rows columns es (i + 1) row) (here : BeginHere i row) where
  pub outer-left : get_or row 0 None ≡ None
  outer-left = is.each 0 (omega arith) ∙ owner-left rows columns es (i + 1)

  pub outer-right : (j : ℕ) → j ≡ columns → get_or row (j + 1) None ≡ None
  outer-right j last = is.each (j + 1) (omega (arith, last)) ∙ owner-right rows columns es (i + 1) (j + 1) (omega (arith, last))

  pub begins-here : (j : ℕ) → j < columns → begins_at (get_or row (j + 1) None) (place i j) ≡ true
  begins-here j less = here j (omega (arith, less, is.long))

  pub begins-before : (j : ℕ) → 0 < j → j ≤ columns → begins_at (get_or row j None) (place i (j - 1)) ≡ true
  begins-before j some less = subst (λ k. begins_at (get_or row k None) (place i (j - 1)) ≡ true) (let e : j - 1 + 1 ≡ j = omega (arith, some) in e) (begins-here (j - 1) (omega (arith, some, less)))

  -- a border lies at each edge of the row
  pub differ-beside : (j : ℕ) → j ≤ columns → 0 < columns → differ (get_or row j None) (get_or row (j + 1) None) ≡ true
  differ-beside j less wide = elim (cases_eq j 0) [
    | inl first ↦ elim (cases_lt j columns) [
      | inl more ↦ differ-before _ _ (place i j) (begins-here j more) (ap (λ k. get_or row k None) first ∙ outer-left)
      | inr last ↦ absurd (omega (arith, first, last, wide))
    ]
    | inr later ↦ elim (cases_lt j columns) [
      | inl more ↦ differ-apart _ _ (place i (j - 1)) (place i j) (begins-before j (omega (arith, later)) less) (begins-here j more) (other-column i (j - 1) j (omega (arith, later)))
      | inr last ↦ differ-after _ _ (place i (j - 1)) (begins-before j (omega (arith, later)) less) (outer-right j (omega (arith, less, last)))
    ]
  ]

module _ (rows columns : ℕ) (m : SpanMap) (i : ℕ) (above below : List (Option Rectangle)) (some : 0 < i) (wide : 0 < columns) (over : IsOwnerRow rows columns (rectangles m) i above) (under : IsOwnerRow rows columns (rectangles m) (i + 1) below) (first : BeginHere (i - 1) above) (second : BeginHere i below) where
  over-is : IsOwnerRow rows columns (rectangles m) (i - 1 + 1) above
  over-is = subst (λ k. IsOwnerRow rows columns (rectangles m) k above) (let e : i ≡ i - 1 + 1 = omega (arith, some) in e) over

  differ-right : (j : ℕ) → j ≤ columns → differ (get_or above (j + 1) None) (get_or below (j + 1) None) ≡ nat_lt j columns
  differ-right j less = elim (cases_lt j columns) [
    | inl more ↦ differ-apart _ _ (place (i - 1) j) (place i j) (begins-here (i - 1) over-is first j more) (begins-here i under second j more) (other-row (i - 1) i j (omega (arith, some))) ∙ sym (lt-ltb j columns more)
    | inr last ↦ ap₂ differ (outer-right (i - 1) over-is first j (omega (arith, less, last))) (outer-right i under second j (omega (arith, less, last))) ∙ sym (le-ltb j columns last)
  ]

  differ-left : (j : ℕ) → j ≤ columns → differ (get_or above j None) (get_or below j None) ≡ nat_lt 0 j
  differ-left j less = elim (cases_eq j 0) [
    | inl none ↦ ap₂ differ (ap (λ k. get_or above k None) none ∙ outer-left (i - 1) over-is first) (ap (λ k. get_or below k None) none ∙ outer-left i under second) ∙ ap (nat_lt 0) (sym none)
    | inr more ↦ differ-apart _ _ (place (i - 1) (j - 1)) (place i (j - 1)) (begins-before (i - 1) over-is first j (omega (arith, more)) less) (begins-before i under second j (omega (arith, more)) less) (other-row (i - 1) i (j - 1) (omega (arith, some))) ∙ sym (lt-ltb 0 j (omega (arith, more)))
  ]

  -- at the line between two such rows no cells are merged
  pub apart-rows : i < rows → AreUnmerged rows columns i above below
  apart-rows within = record {
    each = λ j less. same-arms _ _ _ _ _ _ _ _
        (differ-beside (i - 1) over-is first j less wide ∙ sym (lt-ltb 0 i some))
        (differ-right j less)
        (differ-beside i under second j less wide ∙ sym (lt-ltb i rows within))
        (differ-left j less);
  }
