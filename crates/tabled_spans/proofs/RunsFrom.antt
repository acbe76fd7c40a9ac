-- Lists of the runs from a place on, row by row.
use Rattle.tabled_spans.proofs.Common.{[], ◌+◌, ◌∙◌, ◌∷◌, ◌≡◌, ◌≢◌, ◌≤◌, AllByRecursion, Axis, IsBefore, Below, Entity, Grid, In, IsNamed, IsRun, List, Position, Rectangle, RunAt, RunsFrom, RunsOf, Some, SpanMap, ap, arith, before_first, before_more, before_or_at, both, cases_place, common_steps, cond, find_at, inl, inr, is_eq, less-before, place, position_cmp, rectangle, refl, size_of_run, subst, tied, true, untied, ℕ}
use Rattle.tabled_spans.proofs.RunLists.{all_then, begins_named, in_row, next_row}
use Rattle.tabled_spans.proofs.Runs.{same_run}

-- a place that comes not before the next one of another comes after this
is_after : (i j : ℕ) (q : Position) → (IsBefore q (place i (j + 1)) → ⊥) → IsBefore (place i j) q
is_after i j q never = grind (arith, common_steps)

not_itself : (i j : ℕ) → IsBefore (place i j) (place i j) → ⊥
not_itself i j (inl above) = omega (arith, above)
not_itself i j (inr h) = omega (arith, h.1)

below_after : (i j : ℕ) (es : List Rectangle) → AllByRecursion (λ (e : Rectangle). IsBefore e.first (place i (j + 1)) → ⊥) es → Below (place i j) es
below_after i j [] after = tt
below_after i j (e ∷ es) after = both _ _ (rw (less-before (place i j) e.first (is_after i j e.first after.0)) tt) (below_after i j es after.1)

module _ (axis : Axis) (entity : Entity) (g : Grid (List ℕ)) (m : SpanMap) (block : Rectangle) where
  -- no run begins below the block
  pub none_below : (i j : ℕ) → block.first.row + block.size.height ≤ i → RunsFrom axis entity g m block i j []
  none_below i j high = record { sorted = tt; from = tt; inside = tt; each = tt; all = λ p n run at h. absurd (h (inl (omega (arith, high, at.bottom)))) }

  -- those from a row on are those from the end of the row before on
  pub from_end : (i j : ℕ) (es : List Rectangle) → block.first.col + block.size.width ≤ j → RunsFrom axis entity g m block (i + 1) block.first.col es → RunsFrom axis entity g m block i j es
  from_end i j es wide so_far = record {
    sorted = so_far.sorted;
    from = all_then {Q = λ (e : Rectangle). IsBefore e.first (place i j) → ⊥} (λ e never h. never (next_row i j block.first.col e.first h)) es so_far.from;
    inside = so_far.inside;
    each = so_far.each;
    all = λ p n run at never. so_far.all p n run at (λ h. never (in_row i j block.first.col p at.left (omega (arith, at.right, wide)) h));
  }

  -- those from the block's first cell on are all
  pub from_first : (i : ℕ) (es : List Rectangle) → i ≤ block.first.row → RunsFrom axis entity g m block i block.first.col es → RunsFrom axis entity g m block 0 0 es
  from_first i es high so_far = record {
    sorted = so_far.sorted;
    from = all_then {Q = λ (e : Rectangle). IsBefore e.first (place 0 0) → ⊥} (λ e never h. before_first e.first h) es so_far.from;
    inside = so_far.inside;
    each = so_far.each;
    all = λ p n run at never. so_far.all p n run at (λ h. elim h [ inl above ↦ omega (arith, above, high, at.top) | inr left ↦ omega (arith, left.1, at.left) ]);
  }

  -- where the entity names no cell beside the block, they are all of its runs
  pub all_listed : ((p : Position) → IsNamed entity g p → In block p) → (es : List Rectangle) → RunsFrom axis entity g m block 0 0 es → RunsOf axis entity g m es
  all_listed within es listed = record { sorted = listed.sorted; each = listed.each; all = λ p n run. listed.all p n run (within p (begins_named axis entity g m p n run)) (before_first p) }

  module _ (i j : ℕ) (es : List Rectangle) (so_far : RunsFrom axis entity g m block i (j + 1) es) where
    still_from : AllByRecursion (λ (e : Rectangle). IsBefore e.first (place i j) → ⊥) es
    still_from = all_then {Q = λ (e : Rectangle). IsBefore e.first (place i j) → ⊥} (λ e never h. never (before_more i j e.first h)) es so_far.from

    -- a run that begins from the place on begins after it, where it doesn't begin at it
    begins_after : (p : Position) → p ≢ place i j → (IsBefore p (place i j) → ⊥) → IsBefore p (place i (j + 1)) → ⊥
    begins_after p other never h = elim (before_or_at i j p h) [ inl b ↦ never b | inr e ↦ other e ]

    -- no run begins at the place
    pub none_put : (many : ℕ) → many ≤ 1 → RunAt axis entity g m (place i j) many → RunsFrom axis entity g m block i j es
    none_put many few found = record {
      sorted = so_far.sorted;
      from = still_from;
      inside = so_far.inside;
      each = so_far.each;
      all = λ p n run at never. so_far.all p n run at (begins_after p (λ e. found.none few n (subst (λ x. IsRun axis entity g m x n) e run)) never);
    }

    -- one begins there
    pub run_put : (many : ℕ) → 2 ≤ many → In block (place i j) → RunAt axis entity g m (place i j) many → RunsFrom axis entity g m block i j (rectangle (place i j) (size_of_run axis many) ∷ es)
    run_put many two here found = record {
      sorted = both _ _ (below_after i j es so_far.from) so_far.sorted;
      from = (not_itself i j, still_from);
      inside = (here, so_far.inside);
      each = ((many, found.is two, refl), so_far.each);
      all = λ p n run at never. elim (cases_place p (place i j)) [
        | inl e ↦
            let same = same_run axis entity g m (place i j) many n (found.is two) (subst (λ x. IsRun axis entity g m x n) e run) in
            ap (λ b. cond b (Some (size_of_run axis many)) (find_at p es)) (subst (λ x. is_eq (position_cmp p x) ≡ true) e (tied p)) ∙ ap (λ k. Some (size_of_run axis k)) same
        | inr other ↦ ap (λ b. cond b (Some (size_of_run axis many)) (find_at p es)) (untied p (place i j) other) ∙ so_far.all p n run at (begins_after p other never)
      ];
    }
