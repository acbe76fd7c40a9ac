-- Which cells of a table a step over rows and columns reaches.
use Rattle.tabled_grid.proofs.Common.{◌%◌, ◌&&◌, ◌+◌, ◌<◌, ◌^◌, ◌||◌, ◌↔◌, ◌≡◌, ◌≢◌, ◌≤◌, ◌⊎◌, In, List, Position, Rectangle, Size, Steps, and_from, and_parts, ap, ap₂, arith, beyond, both_ways, cases_eq, cases_lt, common_steps, eq-eqb, false, false_from_ne_true, false≢true, get_or, hides, in_run, inl, inr, le-leb, lt-ltb, ltb-true, max, min, nat_lt, not_from_false, not_from_true, or_cases, or_left, or_right, place, refl, same_place, set, sym, true, ℕ}
use Rattle.std.specs.Prelude.{◌-◌, ◌*◌}
use Rattle.tabled_grid.proofs.SpanMaps.{same_place-apart, same_place-true, same_place-self}
use Rattle.tabled_grid.proofs.Rectangles.{holds-from, holds-true}
use Rattle.tabled_grid.proofs.Tables.{steps_joined, steps_nowhere, steps_one, steps_same}

record InRun (i : ℕ) (run : ℕ × ℕ) (p : Position) : Type 0 where
  row : p.row ≡ i
  left : run.0 ≤ p.col
  right : p.col < run.1

in_run-true : (i : ℕ) (run : ℕ × ℕ) (p : Position) → in_run i run p ≡ true → InRun i run p
in_run-true i run p t = grind (arith, common_steps, and_parts)

in_run-from : (i : ℕ) (run : ℕ × ℕ) (p : Position) → InRun i run p → in_run i run p ≡ true
in_run-from i run p h = and_from _ _ (eq-eqb _ _ h.row) (and_from _ _ (le-leb _ _ h.left) (lt-ltb _ _ h.right))

-- a run that ends where it begins, or before
no_run : (i : ℕ) (run : ℕ × ℕ) (p : Position) → run.1 ≤ run.0 → in_run i run p ≡ false
no_run i run p h = false_from_ne_true _ (λ t. let at = in_run-true i run p t in omega (arith, at.left, at.right))

-- one column more
run_next : (i first j : ℕ) (p : Position) → first ≤ j → in_run i (first, j + 1) p ≡ (in_run i (first, j) p || same_place (place i j) p)
run_next i first j p h = grind (arith, common_steps, or_cases, in_run-true, cases_lt, or_left, in_run-from, or_right, and_from, same_place-true)

-- a row that is stepped up to a column
pub record RunTo (old new : List ℕ) (i : ℕ) (run : ℕ × ℕ) (j step limit : ℕ) (size : Size) : Type 0 where
  pub steps : Steps old new (in_run i (run.0, j)) step limit size
  pub empty : run.1 < run.0 → j ≡ run.0

pub run_starts : (xs : List ℕ) (i : ℕ) (run : ℕ × ℕ) (step limit : ℕ) (size : Size) → RunTo xs xs i run run.0 step limit size
run_starts xs i run step limit size = record { steps = steps_nowhere xs _ step limit size (λ r c h k. no_run i (run.0, run.0) (place r c) (omega arith)); empty = λ h. refl }

pub run_more : (old xs : List ℕ) (i j k d x : ℕ) (run : ℕ × ℕ) (step limit : ℕ) (size : Size) → RunTo old xs i run j step limit size → run.0 ≤ j → j < run.1 → i < size.height → run.1 ≤ size.width → k ≡ i * size.width + j → x ≡ (get_or xs k d + step) % limit → RunTo old (set xs k x) i run (j + 1) step limit size
run_more old xs i j k d x run step limit size so from below row end e value = record {
  steps = steps_joined old xs (set xs k x) (in_run i (run.0, j)) (same_place (place i j)) (in_run i (run.0, j + 1)) step limit size
      (λ r c h l. run_next i run.0 j (place r c) from)
      (λ r c h l t s. let at = in_run-true i (run.0, j) (place r c) t in omega (arith, at.right, ap (λ (q : Position). q.col) (same_place-true (place i j) (place r c) s)))
      so.steps (steps_one xs i j k d x step limit size row (omega arith) e value);
  empty = λ h. absurd (omega arith);
}

-- all of a run
pub run_done : (old xs : List ℕ) (i j : ℕ) (run : ℕ × ℕ) (step limit : ℕ) (size : Size) → RunTo old xs i run j step limit size → run.1 ≤ j → (run.0 ≤ run.1 → j ≤ run.1) → Steps old xs (in_run i run) step limit size
run_done old xs i j run step limit size so past near = grind (arith, common_steps, cases_lt, steps_same, no_run)

-- an anchor's rectangle, cut at a block, and the rows of it that are stepped
pub record EachTo (old new : List ℕ) (cells anchor : Rectangle) (i step limit : ℕ) : Type 0 where
  pub steps : Steps old new (λ p. hides (beyond cells.first p) anchor && nat_lt p.row i) step limit cells.size

-- what it is for an anchor to hide a place
pub record Hides (anchor : Rectangle) (p : Position) : Type 0 where
  pub holds : In anchor p
  pub other : anchor.first ≢ p

pub hides-true : (anchor : Rectangle) (p : Position) → hides p anchor ≡ true → Hides anchor p
hides-true anchor p t = grind (arith, common_steps, and_parts, holds-true, false≢true, not_from_true, same_place-self)

hides-from : (anchor : Rectangle) (p : Position) → Hides anchor p → hides p anchor ≡ true
hides-from anchor p h = and_from _ _ (holds-from anchor p h.holds) (not_from_false _ (same_place-apart anchor.first p h.other))

pub each_starts : (xs : List ℕ) (cells anchor : Rectangle) (i step limit : ℕ) → i + cells.first.row ≤ max anchor.first.row cells.first.row → EachTo xs xs cells anchor i step limit
each_starts xs cells anchor i step limit low = grind (arith, common_steps, steps_nowhere, false_from_ne_true, and_parts, hides-true)

-- where the first of an anchor's columns is another's place
abbrev pub Begins : Rectangle → Rectangle → ℕ → ℕ → Type 0
Begins cells anchor i left = (j : ℕ) → j < cells.size.width → (left ≤ j) ↔ ((anchor.first.col ≤ cells.first.col + j) × (cells.first.row + i ≡ anchor.first.row → cells.first.col + j ≡ anchor.first.col → ⊥))

-- one row more
pub each_more : (old xs ys : List ℕ) (cells anchor : Rectangle) (i left right step limit : ℕ) → EachTo old xs cells anchor i step limit → Steps xs ys (in_run i (left, right)) step limit cells.size → anchor.first.row ≤ cells.first.row + i → cells.first.row + i < anchor.first.row + anchor.size.height → Begins cells anchor i left → ((j : ℕ) → j < cells.size.width → (j < right) ↔ (cells.first.col + j < anchor.first.col + anchor.size.width)) → EachTo old ys cells anchor (i + 1) step limit
each_more old xs ys cells anchor i left right step limit so run low high begins end = record {
  steps = steps_joined old xs ys (λ p. hides (beyond cells.first p) anchor && nat_lt p.row i) (in_run i (left, right)) (λ p. hides (beyond cells.first p) anchor && nat_lt p.row (i + 1)) step limit cells.size
      (λ r c h k. both_ways _ _ (to r c k) (λ t. from r c k (or_cases _ _ t)))
      (λ r c h k t s. let at = in_run-true i (left, right) (place r c) s in omega (arith, at.row, ltb-true r i (and_parts (hides (beyond cells.first (place r c)) anchor) (nat_lt r i) t).1))
      so.steps run;
}
  where
    to : (r c : ℕ) → c < cells.size.width → (hides (beyond cells.first (place r c)) anchor && nat_lt r (i + 1)) ≡ true → ((hides (beyond cells.first (place r c)) anchor && nat_lt r i) || in_run i (left, right) (place r c)) ≡ true
    to r c k t = let parts = and_parts (hides (beyond cells.first (place r c)) anchor) (nat_lt r (i + 1)) t in before-or-here (hides-true anchor (beyond cells.first (place r c)) parts.0) (cases_lt r i) (ltb-true r (i + 1) parts.1)
      where
        before-or-here : Hides anchor (beyond cells.first (place r c)) → (r < i) ⊎ (i ≤ r) → r < i + 1 → ((hides (beyond cells.first (place r c)) anchor && nat_lt r i) || in_run i (left, right) (place r c)) ≡ true
        before-or-here at (inl l) below = or_left _ _ (and_from _ _ (hides-from anchor (beyond cells.first (place r c)) at) (lt-ltb _ _ l))
        before-or-here at (inr l) below =
            let row : r ≡ i = omega arith in
            or_right _ _ (in_run-from i (left, right) (place r c) (record { row = row; left = (begins c k).1 (at.holds.left, λ e f. at.other (ap₂ place (omega (arith, e, row)) (sym f))); right = (end c k).1 at.holds.right }))

    from : (r c : ℕ) → c < cells.size.width → ((hides (beyond cells.first (place r c)) anchor && nat_lt r i) ≡ true) ⊎ (in_run i (left, right) (place r c) ≡ true) → (hides (beyond cells.first (place r c)) anchor && nat_lt r (i + 1)) ≡ true
    from r c k (inl t) = let parts = and_parts (hides (beyond cells.first (place r c)) anchor) (nat_lt r i) t in and_from _ _ parts.0 (lt-ltb _ _ (omega (arith, ltb-true r i parts.1)))
    from r c k (inr s) =
        let at = in_run-true i (left, right) (place r c) s in
        let begin = (begins c k).0 at.left in
        and_from _ _ (hides-from anchor (beyond cells.first (place r c)) (record {
          holds = record { top = omega (arith, at.row); bottom = omega (arith, at.row); left = begin.0; right = (end c k).0 at.right };
          other = λ e. begin.1 (omega (arith, at.row, ap (λ (q : Position). q.row) e)) (sym (ap (λ (q : Position). q.col) e));
        })) (lt-ltb _ _ (omega (arith, at.row)))

-- all rows of the block that the rectangle has
pub each_done : (old xs : List ℕ) (cells anchor : Rectangle) (i step limit : ℕ) → EachTo old xs cells anchor i step limit → ((r : ℕ) → r < cells.size.height → cells.first.row + r < anchor.first.row + anchor.size.height → r < i) → Steps old xs (λ p. hides (beyond cells.first p) anchor) step limit cells.size
each_done old xs cells anchor i step limit so past = steps_same old xs _ _ step limit cells.size (λ r c h k. both_ways _ _ (λ t. (and_parts _ _ t).0) (λ t. and_from _ _ t (lt-ltb _ _ (past r h (hides-true anchor (beyond cells.first (place r c)) t).holds.bottom)))) so.steps

pub begins_after : (cells anchor : Rectangle) (i left : ℕ) → cells.first.col + cells.size.width < 2 ^ 64 → cells.first.row + i ≡ anchor.first.row → left ≡ min (anchor.first.col + 1) 18446744073709551615 - cells.first.col → Begins cells anchor i left
begins_after cells anchor i left fits row is = grind (arith, common_steps, cases_eq)

pub begins_at : (cells anchor : Rectangle) (i left : ℕ) → (cells.first.row + i ≡ anchor.first.row → ⊥) → left ≡ anchor.first.col - cells.first.col → Begins cells anchor i left
begins_at cells anchor i left apart is = λ j h. (λ l. (omega arith, λ e f. apart e), λ b. omega (arith, b.0))
