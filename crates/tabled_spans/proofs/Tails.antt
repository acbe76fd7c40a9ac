-- Tails of runs: the lengths that are carried from each cell to the one before it.
use Rattle.tabled_spans.proofs.Common.{◌+◌, ◌-◌, ◌<◌, ◌∙◌, ◌≡◌, ◌≢◌, ◌≤◌, ◌⊎◌, AreTails, Axis, IsBefore, Columns, Entity, Grid, In, IsBand, IsTail, Joins, List, Position, Rectangle, Rows, SpanMap, ap, ap₂, arith, before_more, before_or_at, cases_lt, cases_place, common_steps, further, get_or-replicate, get_or-set_other, get_or-set_same, inl, inr, length-replicate, length-set, line_of, place, refl, replicate, slice_index, slice_set, subst, suc, sym, zero, ℕ}
use Rattle.tabled_spans.proofs.RunLists.{in_row, next_row}
use Rattle.tabled_spans.proofs.Runs.{further_back, further_more, further_none, same_last}

-- the cell after a place along the axis comes not before the next place, row by row
next_after : (axis : Axis) (p : Position) → IsBefore (further axis 1 p) (place p.row (p.col + 1)) → ⊥
next_after Rows p (inl h) = omega (arith, h)
next_after Rows p (inr h) = omega (arith, h.0)
next_after Columns p (inl h) = omega (arith, h)
next_after Columns p (inr h) = omega (arith, h.1)

module _ (axis : Axis) (entity : Entity) (g : Grid (List ℕ)) (m : SpanMap) where
  -- a cell that joins none
  pub tail_alone : (p : Position) → (Joins axis entity g m p → ⊥) → IsTail axis entity g m p 1
  tail_alone p never = grind (arith, common_steps, further_none)

  -- a cell that joins the first of others
  pub tail_more : (last p : Position) (many : ℕ) → further axis 1 last ≡ p → Joins axis entity g m last → IsTail axis entity g m p many → IsTail axis entity g m last (many + 1)
  tail_more last p many is j tail = record {
    some = omega arith;
    joins = λ k h. elim (cases_lt 0 k) [
      | inl l ↦ subst (Joins axis entity g m) (further_back axis (k - 1) k last p is (omega arith)) (tail.joins (k - 1) (omega arith))
      | inr l ↦ subst (Joins axis entity g m) (sym (further_none axis last) ∙ ap (λ n. further axis n last) (omega arith)) j
    ];
    ends = λ e. tail.ends (subst (Joins axis entity g m) (sym (further_back axis (many - 1) (many + 1 - 1) last p is (omega (arith, tail.some)))) e);
  }

  -- the first cell of a tail of two joins the next one
  pub tail_joins : (p : Position) (many : ℕ) → IsTail axis entity g m p many → 2 ≤ many → Joins axis entity g m p
  tail_joins p many tail two = subst (Joins axis entity g m) (further_none axis p) (tail.joins 0 (omega arith))

  module _ (block : Rectangle) (is : IsBand axis entity g block) where
    -- a tail lies in the block
    tail_inside : (p : Position) (many k : ℕ) → In block p → IsTail axis entity g m p many → k < many → In block (further axis k p)
    tail_inside p many zero inside tail less = subst (In block) (sym (further_none axis p)) inside
    tail_inside p many (suc k) inside tail less = subst (In block) (further_more axis k (suc k) p (omega arith)) (is.next (further axis k p) (tail_inside p many k inside tail (omega arith)) (tail.joins k (omega arith)).next)

    -- with one cell before it, it is shorter than a line of the block
    pub tail_fits : (last p : Position) (many bound : ℕ) → further axis 1 last ≡ p → In block p → IsTail axis entity g m p many → block.first.row + block.size.height < bound → block.first.col + block.size.width < bound → many + 1 < bound
    tail_fits last p many bound next inside tail high wide = fits axis next (tail_inside p many (many - 1) inside tail (omega (arith, tail.some)))
      where
        fits : (x : Axis) → further x 1 last ≡ p → In block (further x (many - 1) p) → many + 1 < bound
        fits Rows e end = omega (arith, end.bottom, high, tail.some, ap (λ (y : Position). y.row) e)
        fits Columns e end = omega (arith, end.right, wide, tail.some, ap (λ (y : Position). y.col) e)

    -- below the block
    pub tails_below : (i j : ℕ) → block.first.row + block.size.height ≤ i → AreTails axis entity g m block i j (replicate block.size.width 1)
    tails_below i j high = record {
      size = length-replicate block.size.width 1;
      each = λ p inside before alone. subst (IsTail axis entity g m p) (sym (get_or-replicate block.size.width (p.col - block.first.col) 1 0 (omega (arith, inside.left, inside.right)))) (tail_alone p (λ j. let next = is.next p inside j.next in alone next (inl (omega (arith, next.bottom, high)))));
    }

    -- the cell before one of the block's first line isn't in the block
    pub in_front : (x : Axis) (p q : Position) → line_of x p ≡ line_of x block.first → further x 1 q ≡ p → In block q → ⊥
    in_front Rows p q first e within = omega (arith, first, ap (λ (y : Position). y.row) e, within.top)
    in_front Columns p q first e within = omega (arith, first, ap (λ (y : Position). y.col) e, within.left)

    -- from the end of a row on
    pub tails_end : (i j : ℕ) (lengths : List ℕ) → block.first.col + block.size.width ≤ j → AreTails axis entity g m block (i + 1) block.first.col lengths → AreTails axis entity g m block i j lengths
    tails_end i j lengths wide so_far = record {
      size = so_far.size;
      each = λ p inside before alone. so_far.each p inside (next_row i j block.first.col p before) (λ within h. alone within (in_row i j block.first.col (further axis 1 p) within.left (omega (arith, within.right, wide)) h));
    }

    module _ (p : Position) (inside : In block p) (lengths : List ℕ) (so_far : AreTails axis entity g m block p.row (p.col + 1) lengths) where
      -- the tail at the place
      pub tail_here : IsTail axis entity g m p (slice_index lengths (p.col - block.first.col))
      tail_here = so_far.each p inside (inr (refl, omega arith)) (λ within h. next_after axis p h)

      tail_still : (r : Position) → In block r → IsBefore r p → (In block (further axis 1 r) → IsBefore (further axis 1 r) p → ⊥) → (further axis 1 r ≡ p → ⊥) → IsTail axis entity g m r (slice_index lengths (r.col - block.first.col))
      tail_still r within before alone other = so_far.each r within (before_more p.row p.col r before) (λ next h. elim (before_or_at p.row p.col (further axis 1 r) h) [ inl b ↦ alone next b | inr e ↦ other e ])

      -- where no place of the block is before it
      pub tails_first : line_of axis p ≡ line_of axis block.first → AreTails axis entity g m block p.row p.col lengths
      tails_first first = record { size = so_far.size; each = λ r within before alone. tail_still r within before alone (λ e. in_front axis p r first e within) }

      -- the tail at the place before it
      pub tails_set : (last : Position) (many : ℕ) → further axis 1 last ≡ p → In block last → IsTail axis entity g m last many → AreTails axis entity g m block p.row p.col (slice_set lengths (last.col - block.first.col) many)
      tails_set last many is here tail = record {
        size = length-set lengths (last.col - block.first.col) many ∙ so_far.size;
        each = λ r within before alone. tail_set r within before alone (cases_place r last);
      }
        where
          same_column : (x : Axis) (r : Position) → further x 1 last ≡ p → In block r → IsBefore r p → r.col - block.first.col ≡ last.col - block.first.col → (In block (further x 1 r) → IsBefore (further x 1 r) p → ⊥) → further x 1 r ≡ p
          same_column Rows r e within (inl above) same alone = next_row (cases_lt (r.row + 1) p.row)
            where
              next_row : (r.row + 1 < p.row) ⊎ (p.row ≤ r.row + 1) → further Rows 1 r ≡ p
              next_row (inl l) = absurd (alone (record { top = omega (arith, within.top); bottom = omega (arith, l, inside.bottom); left = within.left; right = within.right }) (inl l))
              next_row (inr l) = ap₂ place (omega (arith, above)) (omega (arith, same, within.left, here.left, ap (λ (y : Position). y.col) e))
          same_column Rows r e within (inr h) same alone = absurd (omega (arith, h.1, same, within.left, here.left, ap (λ (y : Position). y.col) e))
          same_column Columns r e within (inl above) same alone = absurd (alone (record { top = within.top; bottom = within.bottom; left = omega (arith, within.left); right = omega (arith, same, within.left, here.left, ap (λ (y : Position). y.col) e, inside.right) }) (inl above))
          same_column Columns r e within (inr h) same alone = ap₂ place h.0 (omega (arith, same, within.left, here.left, ap (λ (y : Position). y.col) e))

          tail_set : (r : Position) → In block r → IsBefore r p → (In block (further axis 1 r) → IsBefore (further axis 1 r) p → ⊥) → (r ≡ last) ⊎ (r ≢ last) → IsTail axis entity g m r (slice_index (slice_set lengths (last.col - block.first.col) many) (r.col - block.first.col))
          tail_set r within before alone (inl e) = subst (λ (x : Position). IsTail axis entity g m x (slice_index (slice_set lengths (last.col - block.first.col) many) (x.col - block.first.col))) (sym e) (subst (IsTail axis entity g m last) (sym (get_or-set_same lengths (last.col - block.first.col) many 0 (omega (arith, here.left, here.right, so_far.size)))) tail)
          tail_set r within before alone (inr other) =
              let apart : further axis 1 r ≢ p = λ e. other (same_last axis r last (e ∙ sym is)) in
              subst (IsTail axis entity g m r) (sym (get_or-set_other lengths (last.col - block.first.col) (r.col - block.first.col) many 0 (λ same. apart (same_column axis r is within before same alone)))) (tail_still r within before alone apart)
