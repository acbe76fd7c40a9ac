-- The runs that are listed are those that are merged.
use Rattle.tabled_steps.proofs.Common.{◌++◌, ◌+◌, ◌-◌, ◌<◌, ◌∙◌, ◌≡◌, ◌≤◌, ◌⊎◌, Axis, Bool, Columns, Entity, Grid, IsInside, IsNamed, IsRun, Joins, List, MergesRuns, None, Option, Position, Rectangle, Rows, RunAt, RunsFrom, RunsOf, Some, SpanMap, and_from, and_parts, ap, append_assoc, ap₂, arith, block-is, cond, false, false≢true, flat_map, flat_map-append, further, get, inl, inr, lt-ltb, ltb-true, map, none-some, option_eq, place, places, range_with_len, rectangle, refl, same_Some, same_map, size_of_run, subst, suc, sym, true, with_sizes, zero, ℕ}
use Rattle.std.specs.Str.{bytes_eq}
use Rattle.tabled_grid.specs.Rectangles.{In}
use Rattle.tabled_grid.specs.Spans.{sized}
use Rattle.std.proofs.lemmas.Slice.Eq.{bytes_eq-Decides}
use Rattle.tabled_spans.proofs.RunLists.{runs_merged}
use Rattle.tabled_spans.proofs.Runs.{continues, further_none, run_at as run_at_end, same_run}
use Rattle.tabled_spans.proofs.RunsFrom.{all_listed, from_end, none_below, none_put, run_put}
use Rattle.tabled_steps.specs.MergedRuns.{is_joined, is_named, joins, run_at, run_from, runs}

alike_if : (a b : Option (List ℕ)) → a ≡ b → option_eq bytes_eq a b ≡ true
alike_if None None e = refl
alike_if None (Some y) e = absurd (none-some y e)
alike_if (Some x) None e = absurd (none-some x (sym e))
alike_if (Some x) (Some y) e = (bytes_eq-Decides x y).1 (same_Some x y e)

if_alike : (a b : Option (List ℕ)) → option_eq bytes_eq a b ≡ true → a ≡ b
if_alike None None t = refl
if_alike None (Some y) t = absurd (false≢true t)
if_alike (Some x) None t = absurd (false≢true t)
if_alike (Some x) (Some y) t = ap Some ((bytes_eq-Decides x y).0 t)

module _ (axis : Axis) (entity : Entity) (g : Grid (List ℕ)) (m : SpanMap) where
  -- one map alone has the runs merged
  pub merged_alike : (n k : SpanMap) → MergesRuns axis entity g m n → MergesRuns axis entity g m k → n ≡ k
  merged_alike n k first second = same_map n k (λ p. same_size p (first.each p) (second.each p))
    where
      same_size : (p : Position) → ((a : ℕ) × IsRun axis entity g m p a × (get n p ≡ Some (size_of_run axis a))) ⊎ (((a : ℕ) → IsRun axis entity g m p a → ⊥) × (get n p ≡ get m p)) → ((b : ℕ) × IsRun axis entity g m p b × (get k p ≡ Some (size_of_run axis b))) ⊎ (((b : ℕ) → IsRun axis entity g m p b → ⊥) × (get k p ≡ get m p)) → get n p ≡ get k p
      same_size p (inl (a, run, has)) (inl (b, other, has_other)) = has ∙ ap (λ many. Some (size_of_run axis many)) (same_run axis entity g m p a b run other) ∙ sym has_other
      same_size p (inl (a, run, has)) (inr (none, same)) = absurd (none a run)
      same_size p (inr (none, same)) (inl (b, other, has_other)) = absurd (none b other)
      same_size p (inr (none, same)) (inr (never, alike)) = same ∙ sym alike

  named-is : (p : Position) → IsNamed entity g p → is_named entity g p ≡ true
  named-is p h = and_from _ _ h.named (and_from _ _ (lt-ltb p.row g.rows h.inside.row) (lt-ltb p.col g.columns h.inside.col))

  is-named : (p : Position) → is_named entity g p ≡ true → IsNamed entity g p
  is-named p named = let parts = and_parts _ _ named in let halves = and_parts _ _ parts.1 in record { inside = record { row = ltb-true p.row g.rows halves.0; col = ltb-true p.col g.columns halves.1 }; named = parts.0 }

  -- the test says whether cells join
  joins_if : (p : Position) → Joins axis entity g m p → joins axis entity g m p ≡ true
  joins_if p j = and_from _ _ (and_from _ _ (named-is p j.here) (named-is (further axis 1 p) j.next)) (and_from _ _ (and_from _ _ j.free j.next_free) (alike_if _ _ j.same))

  if_joins : (p : Position) → joins axis entity g m p ≡ true → Joins axis entity g m p
  if_joins p t =
      let parts = and_parts _ _ t in
      let named = and_parts _ _ parts.0 in
      let others = and_parts _ _ parts.1 in
      let free = and_parts _ _ others.0 in
      record { here = is-named p named.0; next = is-named (further axis 1 p) named.1; free = free.0; next_free = free.1; same = if_alike _ _ others.1 }

  apart_if : (p : Position) → joins axis entity g m p ≡ false → Joins axis entity g m p → ⊥
  apart_if p f j = false≢true (sym f ∙ joins_if p j)

  further_next : (x : Axis) (k : ℕ) (p : Position) → further x k (further x 1 p) ≡ further x (suc k) p
  further_next Rows k p = ap₂ place (omega arith) refl
  further_next Columns k p = ap₂ place refl (omega arith)

  some_run : (most : ℕ) (p : Position) → 1 ≤ run_from most axis entity g m p
  some_run zero p = omega arith
  some_run (suc most) p = elim (joins axis entity g m p) as (λ b. 1 ≤ cond b (suc (run_from most axis entity g m (further axis 1 p))) 1) [ true ↦ omega arith | false ↦ omega arith ]

  -- each cell of those that are counted joins the next one
  run_joins : (most : ℕ) (p : Position) (k : ℕ) → k + 1 < run_from most axis entity g m p → Joins axis entity g m (further axis k p)
  run_joins zero p k h = absurd (omega (arith, h))
  run_joins (suc most) p k h = joins_next (joins axis entity g m p) refl k h (λ i l. run_joins most (further axis 1 p) i l)
    where
      joins_next : (b : Bool) → joins axis entity g m p ≡ b → (k : ℕ) → k + 1 < cond (joins axis entity g m p) (suc (run_from most axis entity g m (further axis 1 p))) 1 → ((i : ℕ) → i + 1 < run_from most axis entity g m (further axis 1 p) → Joins axis entity g m (further axis i (further axis 1 p))) → Joins axis entity g m (further axis k p)
      joins_next true is zero h later = subst (Joins axis entity g m) (sym (further_none axis p)) (if_joins p is)
      joins_next true is (suc i) h later = let less = rw is at h in subst (Joins axis entity g m) (further_next axis i p) (later i (omega (arith, less)))
      joins_next false is i h later = let less = rw is at h in absurd (omega (arith, less))

  -- the last one joins none, or all of n were counted
  run_ends : (most : ℕ) (p : Position) → Joins axis entity g m (further axis (run_from most axis entity g m p - 1) p) → run_from most axis entity g m p ≡ most + 1
  run_ends zero p j = refl
  run_ends (suc most) p j = ends_late (joins axis entity g m p) refl j (some_run most (further axis 1 p)) (run_ends most (further axis 1 p))
    where
      ends_late : (b : Bool) → joins axis entity g m p ≡ b → Joins axis entity g m (further axis (cond (joins axis entity g m p) (suc (run_from most axis entity g m (further axis 1 p))) 1 - 1) p) → 1 ≤ run_from most axis entity g m (further axis 1 p) → (Joins axis entity g m (further axis (run_from most axis entity g m (further axis 1 p) - 1) (further axis 1 p)) → run_from most axis entity g m (further axis 1 p) ≡ most + 1) → cond (joins axis entity g m p) (suc (run_from most axis entity g m (further axis 1 p))) 1 ≡ suc most + 1
      ends_late true is j some later =
          let at = rw is at j in
          let n = run_from most axis entity g m (further axis 1 p) in
          let same : further axis (suc n - 1) p ≡ further axis (n - 1) (further axis 1 p) = ap (λ k. further axis k p) (omega (arith, some)) ∙ sym (further_next axis (n - 1) p) in
          rw is (omega (arith, later (subst (Joins axis entity g m) same at)))
      ends_late false is j some later = let at = rw is at j in absurd (apart_if p is (subst (Joins axis entity g m) (further_none axis p) at))

  place_bound : (x : Axis) (p : Position) (k : ℕ) → IsInside g (further x 1 (further x k p)) → k + 1 < g.rows + g.columns
  place_bound Rows p k inside = omega (arith, inside.row, inside.col)
  place_bound Columns p k inside = omega (arith, inside.row, inside.col)

  never_ends : (p : Position) → Joins axis entity g m (further axis (run_from (g.rows + g.columns) axis entity g m p - 1) p) → ⊥
  never_ends p j = omega (arith, run_ends (g.rows + g.columns) p j, place_bound axis p (run_from (g.rows + g.columns) axis entity g m p - 1) j.next.inside)

  joined_next : (x : Axis) (q p : Position) → further x 1 q ≡ p → joins x entity g m q ≡ true → is_joined x entity g m p ≡ true
  joined_next Rows q p is t =
      let row : q.row + 1 ≡ p.row = ap (λ (r : Position). r.row) is in
      let back : place (p.row - 1) p.col ≡ q = ap₂ place (omega (arith, row)) (sym (ap (λ (r : Position). r.col) is)) in
      and_from _ _ (lt-ltb 0 p.row (omega (arith, row))) (subst (λ (r : Position). joins Rows entity g m r ≡ true) (sym back) t)
  joined_next Columns q p is t =
      let col : q.col + 1 ≡ p.col = ap (λ (r : Position). r.col) is in
      let back : place p.row (p.col - 1) ≡ q = ap₂ place (sym (ap (λ (r : Position). r.row) is)) (omega (arith, col)) in
      and_from _ _ (lt-ltb 0 p.col (omega (arith, col))) (subst (λ (r : Position). joins Columns entity g m r ≡ true) (sym back) t)

  last_joined : (x : Axis) (p : Position) → is_joined x entity g m p ≡ true → (q : Position) × (further x 1 q ≡ p) × (joins x entity g m q ≡ true)
  last_joined Rows p t =
      let parts = and_parts _ _ t in
      (place (p.row - 1) p.col, ap₂ place (omega (arith, ltb-true 0 p.row parts.0)) refl, parts.1)
  last_joined Columns p t =
      let parts = and_parts _ _ t in
      (place p.row (p.col - 1), ap₂ place refl (omega (arith, ltb-true 0 p.col parts.0)), parts.1)

  abbrev counted : Position → ℕ
  counted p = run_from (g.rows + g.columns) axis entity g m p

  -- what is listed for a place is the run that begins there
  found_at : (p : Position) → is_joined axis entity g m p ≡ false → RunAt axis entity g m p (counted p)
  found_at p alone = run_at_end axis entity g m p (counted p) (further axis (counted p - 1) p) (some_run (g.rows + g.columns) p) refl (run_joins (g.rows + g.columns) p) (never_ends p) (λ q is j. false≢true (sym alone ∙ joined_next axis q p is (joins_if q j)))

  continued : (p : Position) → is_joined axis entity g m p ≡ true → RunAt axis entity g m p 0
  continued p t = let last = last_joined axis p t in continues axis entity g m p last.0 last.1 (if_joins last.0 last.2)

  two_at : (most : ℕ) (p : Position) → 1 ≤ most → joins axis entity g m p ≡ true → 2 ≤ run_from most axis entity g m p
  two_at zero p some t = absurd (omega (arith, some))
  two_at (suc most) p some t = rw t (omega (arith, some_run most (further axis 1 p)))

  one_at : (most : ℕ) (p : Position) → joins axis entity g m p ≡ false → run_from most axis entity g m p ≡ 1
  one_at zero p f = refl
  one_at (suc most) p f = rw f refl

  -- the cells that are named lie in the table
  abbrev table : Rectangle
  table = rectangle (place 0 0) (sized g.rows g.columns)

  within : (p : Position) → IsNamed entity g p → In table p
  within p h = record { top = omega arith; bottom = omega (arith, h.inside.row); left = omega arith; right = omega (arith, h.inside.col) }

  one_place : (i j : ℕ) (es : List Rectangle) → RunsFrom axis entity g m table i (j + 1) es → RunsFrom axis entity g m table i j (run_at axis entity g m (place i j) ++ es)
  one_place i j es so_far = put_if_begun (joins axis entity g m (place i j)) (is_joined axis entity g m (place i j)) refl refl
    where
      put_if_begun : (b c : Bool) → joins axis entity g m (place i j) ≡ b → is_joined axis entity g m (place i j) ≡ c → RunsFrom axis entity g m table i j (run_at axis entity g m (place i j) ++ es)
      put_if_begun true false t f =
          let here = (if_joins (place i j) t).here in
          rw (t, f) (run_put axis entity g m table i j es so_far (counted (place i j)) (two_at (g.rows + g.columns) (place i j) (omega (arith, here.inside.row)) t) (within (place i j) here) (found_at (place i j) f))
      put_if_begun true true t f = rw (t, f) (none_put axis entity g m table i j es so_far 0 (omega arith) (continued (place i j) f))
      put_if_begun false true t f = rw t (none_put axis entity g m table i j es so_far 0 (omega arith) (continued (place i j) f))
      put_if_begun false false t f = rw t (none_put axis entity g m table i j es so_far (counted (place i j)) (omega (arith, one_at (g.rows + g.columns) (place i j) t)) (found_at (place i j) f))

  abbrev listed : List Position → List Rectangle
  listed = flat_map (run_at axis entity g m)

  one_row : (n i j : ℕ) (es : List Rectangle) → j + n ≡ g.columns → RunsFrom axis entity g m table i g.columns es → RunsFrom axis entity g m table i j (listed (map (place i) (range_with_len j n)) ++ es)
  one_row zero i j es e so_far = subst (λ k. RunsFrom axis entity g m table i k es) (omega (arith, e)) so_far
  one_row (suc n) i j es e so_far =
      let rest = map (place i) (range_with_len (j + 1) n) in
      rw (append_assoc (run_at axis entity g m (place i j)) (listed rest) es) (one_place i j (listed rest ++ es) (one_row n i (j + 1) es (omega (arith, e)) so_far))

  all_rows : (n i : ℕ) → i + n ≡ g.rows → RunsFrom axis entity g m table i 0 (listed (places (range_with_len i n) (range_with_len 0 g.columns)))
  all_rows zero i e = none_below axis entity g m table i 0 (omega (arith, e))
  all_rows (suc n) i e =
      let first = map (place i) (range_with_len 0 g.columns) in
      let rest = places (range_with_len (i + 1) n) (range_with_len 0 g.columns) in
      rw (flat_map-append (run_at axis entity g m) first rest) (one_row g.columns i 0 (listed rest) (omega arith) (from_end axis entity g m table i g.columns (listed rest) (omega arith) (all_rows n (i + 1) (omega (arith, e)))))

  runs_listed : RunsOf axis entity g m (runs axis entity g m)
  runs_listed = rw (block-is 0 g.rows 0 g.columns g.rows g.columns (omega arith) (omega arith)) (all_listed axis entity g m table within _ (all_rows g.rows 0 (omega arith)))

  -- the map in which the runs are merged is that with their sizes
  pub is_merged : (n : SpanMap) → MergesRuns axis entity g m n → n ≡ with_sizes m (runs axis entity g m)
  is_merged n merges = merged_alike n (with_sizes m (runs axis entity g m)) merges (runs_merged axis entity g m (runs axis entity g m) runs_listed)

  -- in the map with the sizes of the runs that are listed, exactly the runs are merged
  pub listed_merged : MergesRuns axis entity g m (with_sizes m (runs axis entity g m))
  listed_merged = runs_merged axis entity g m (runs axis entity g m) runs_listed
