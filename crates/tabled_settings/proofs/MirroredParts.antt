-- Merged cells in and beside a part of the lines that is put into the opposite order.
use Rattle.std.proofs.lemmas.Grind.{common_steps}
use Rattle.tabled_settings.proofs.Common.{◌+◌, ◌-◌, ◌<◌, ◌∙◌, ◌≡◌, ◌≤◌, ◌⊎◌, Axis, Carries, In, Position, Size, Takes, ap, arith, count_of, in_line, inl, inr, line_of, lines_from, rectangle, refl, sym, ℕ}
use Rattle.tabled_spans.proofs.SpanGeometry.{index_moved}
use Rattle.tabled_settings.proofs.AlongLines.{LiesAlong, across_is, is_along, is_in, lies_along, taken, takes}

-- of n lines those from s up to e come from those as far from the other end, and the others stay
module _ (old : ℕ → ℕ) (n s e : ℕ) (inside : (i : ℕ) → s ≤ i → i < e → old i ≡ s + e - 1 - i) (outside : (i : ℕ) → i < n → (i < s) ⊎ (e ≤ i) → old i ≡ i) where
  -- where an index comes from
  record Comes (i from : ℕ) : Type 0 where
    is : (s ≤ i) × (i < e) × (i + from + 1 ≡ s + e) ⊎ ((i < s) ⊎ (e ≤ i)) × (i ≡ from)

  comes : (i from : ℕ) → i < n → old i ≡ from → Comes i from
  comes i from within is = grind (arith, common_steps)

module _ (axis : Axis) (old : ℕ → ℕ) (rows columns s e : ℕ) (inside : (i : ℕ) → s ≤ i → i < e → old i ≡ s + e - 1 - i) (outside : (i : ℕ) → i < count_of axis rows columns → (i < s) ⊎ (e ≤ i) → old i ≡ i)
    (a : Position) (t : Size) (high : a.row + t.height ≤ rows) (far : a.col + t.width ≤ columns) where
  room : LiesAlong axis rows columns (rectangle a t)
  room = lies_along axis rows columns (rectangle a t) high far

  -- a rectangle in the part
  pub part_mirrored : e ≤ count_of axis rows columns → s ≤ line_of axis a → line_of axis a + count_of axis t.height t.width ≤ e → Carries (lines_from axis old rows columns) (rectangle a t) (rectangle (in_line axis a (s + (e - (line_of axis a + count_of axis t.height t.width)))) t)
  part_mirrored fits first last = record { all = all; only = only; from = from }
    where
      line : ℕ
      line = s + (e - (line_of axis a + count_of axis t.height t.width))

      all : (q : Position) → In (rectangle a t) q → (p : Position) × Takes (lines_from axis old rows columns) p q
      all q holds =
          let h = is_along axis (rectangle a t) q holds in
          let i = s + e - 1 - line_of axis q in
          let back : old i ≡ line_of axis q = inside i (omega (arith, h.last, last)) (omega (arith, h.first, first, h.last, last)) ∙ omega (arith, h.first, first, h.last, last) in
          let p = in_line axis q i in (
            p,
            takes old rows columns p q axis (record {
              within = omega (arith, index_moved axis q i, h.first, first, h.last, last, fits);
              across_within = omega (arith, across_is axis q i, h.to, room.across);
              line = ap old (index_moved axis q i) ∙ back;
              same = across_is axis q i;
            }),
          )

      only : (p q : Position) → Takes (lines_from axis old rows columns) p q → In (rectangle a t) q → In (rectangle (in_line axis a line) t) p
      only p q k holds =
          let h = is_along axis (rectangle a t) q holds in
          let d = taken old rows columns p q axis k in
          elim (comes old (count_of axis rows columns) s e inside outside (line_of axis p) (line_of axis q) d.within d.line).is [
            | inl m ↦ is_in axis (rectangle (in_line axis a line) t) p (record {
              first = omega (arith, index_moved axis a line, m.2, h.last, last);
              last = omega (arith, index_moved axis a line, m.2, h.first, last);
              from = omega (arith, across_is axis a line, d.same, h.from);
              to = omega (arith, across_is axis a line, d.same, h.to);
            })
            | inr m ↦ absurd (omega (arith, m.0, m.1, h.first, h.last, first, last))
          ]

      from : (p : Position) → In (rectangle (in_line axis a line) t) p → (q : Position) × In (rectangle a t) q × Takes (lines_from axis old rows columns) p q
      from p holds =
          let h = is_along axis (rectangle (in_line axis a line) t) p holds in
          let at = index_moved axis a line in
          let beside = across_is axis a line in
          let back = inside (line_of axis p) (omega (arith, at, h.first)) (omega (arith, at, h.last, last)) in
          let i = old (line_of axis p) in
          let q = in_line axis p i in (
            q,
            is_in axis (rectangle a t) q (record {
              first = omega (arith, index_moved axis p i, at, back, h.last, last);
              last = omega (arith, index_moved axis p i, at, back, h.first, h.last, last);
              from = omega (arith, across_is axis p i, beside, h.from);
              to = omega (arith, across_is axis p i, beside, h.to);
            }),
            takes old rows columns p q axis (record { within = omega (arith, at, h.last, last, fits); across_within = omega (arith, beside, h.to, room.across); line = sym (index_moved axis p i); same = sym (across_is axis p i) }),
          )

  -- a rectangle beside it
  pub part_stays : (line_of axis a + count_of axis t.height t.width ≤ s) ⊎ (e ≤ line_of axis a) → Carries (lines_from axis old rows columns) (rectangle a t) (rectangle a t)
  part_stays beside = record { all = λ q holds. (q, stays q holds); only = only; from = λ p holds. (p, holds, stays p holds) }
    where
      off : (i : ℕ) → line_of axis a ≤ i → i < line_of axis a + count_of axis t.height t.width → (line_of axis a + count_of axis t.height t.width ≤ s) ⊎ (e ≤ line_of axis a) → (i < s) ⊎ (e ≤ i)
      off i low below (inl before) = inl (omega (arith, below, before))
      off i low below (inr past) = inr (omega (arith, low, past))

      stays : (q : Position) → In (rectangle a t) q → Takes (lines_from axis old rows columns) q q
      stays q holds =
          let h = is_along axis (rectangle a t) q holds in
          let within : line_of axis q < count_of axis rows columns = omega (arith, h.last, room.lines) in
          takes old rows columns q q axis (record { within = within; across_within = omega (arith, h.to, room.across); line = outside (line_of axis q) within (off (line_of axis q) h.first h.last beside); same = refl })

      only : (p q : Position) → Takes (lines_from axis old rows columns) p q → In (rectangle a t) q → In (rectangle a t) p
      only p q k holds =
          let h = is_along axis (rectangle a t) q holds in
          let d = taken old rows columns p q axis k in
          let other = off (line_of axis q) h.first h.last beside in
          elim (comes old (count_of axis rows columns) s e inside outside (line_of axis p) (line_of axis q) d.within d.line).is [
            | inl m ↦ absurd (omega (arith, m.0, m.1, m.2, other))
            | inr m ↦ is_in axis (rectangle a t) p (record { first = omega (arith, m.1, h.first); last = omega (arith, m.1, h.last); from = omega (arith, d.same, h.from); to = omega (arith, d.same, h.to) })
          ]
