-- A second merge finds no runs, and a merge of a map without rectangles finds those of equal texts.
use Rattle.tabled_spans.proofs.Common.{[], ◌+◌, ◌-◌, ◌<◌, ◌∙◌, ◌≡◌, ◌≢◌, ◌≤◌, ◌⊎◌, Axis, Columns, Entity, Grid, In, IsNamed, IsRun, Joins, List, MergesRuns, None, Position, Rows, Size, Some, SpanMap, and_from, and_parts, ap, ap₂, arith, cases_lt, cell_at, common_steps, eq-eqb, eqb-true, false_from_ne_true, false≢true, further, get, get-map_of, hidden-from, hidden_by, inl, inr, is_free, is_hidden, is_visible, none-some, not_from_false, not_from_true, place, rectangle, refl, same_Some, same_map, size_at, size_at-some, size_of_run, sized, subst, suc, sym, true, unwrap_or, zero, ℕ}
use Rattle.tabled_grid.specs.Spans.{empty, empty-is}
use Rattle.tabled_spans.proofs.MergeGeometry.{run_cell}
use Rattle.tabled_spans.proofs.Runs.{further_back, further_none, same_run}

free_size : (m : SpanMap) (p : Position) → is_free m p ≡ true → size_at m p ≡ sized 1 1
free_size m p free = let ones = and_parts _ _ (and_parts _ _ free).1 in ap₂ sized (eqb-true _ _ ones.0) (eqb-true _ _ ones.1)

free_by : (m : SpanMap) (p : Position) → is_visible m p ≡ true → size_at m p ≡ sized 1 1 → is_free m p ≡ true
free_by m p shown is = and_from _ _ shown (and_from _ _ (eq-eqb _ _ (ap (λ (s : Size). s.height) is)) (eq-eqb _ _ (ap (λ (s : Size). s.width) is)))

not_one : (a : Axis) (many : ℕ) → 2 ≤ many → size_of_run a many ≡ sized 1 1 → ⊥
not_one Rows many h e = omega (arith, h, ap (λ (s : Size). s.height) e)
not_one Columns many h e = omega (arith, h, ap (λ (s : Size). s.width) e)

module _ (axis : Axis) (entity : Entity) (g : Grid (List ℕ)) (m : SpanMap) where
  place_bound : (q : Position) (k : ℕ) → Joins axis entity g m (further axis k q) → q.row + q.col + k + 1 < g.rows + g.columns
  place_bound q k j = grind (arith, common_steps)

  -- a cell that joins the next one is in a run: from the run's first cell on
  onward : (fuel : ℕ) (p q : Position) (k d : ℕ) → g.rows + g.columns ≤ q.row + q.col + k + fuel → 1 ≤ k → d < k → further axis d q ≡ p → ((i : ℕ) → i < k → Joins axis entity g m (further axis i q)) → ((r : Position) → further axis 1 r ≡ q → Joins axis entity g m r → ⊥) → ((a : Position) (many i : ℕ) → IsRun axis entity g m a many → i < many → further axis i a ≡ p → ⊥) → ⊥
  onward zero p q k d bound some within is joins begins hit = hit q (k + 1) d (record { some = omega arith; joins = λ i h. joins i (omega arith); ends = λ j. omega (arith, bound, place_bound q k (subst (λ n. Joins axis entity g m (further axis n q)) (omega arith) j)); begins = begins }) (omega arith) is
  onward (suc fuel) p q k d bound some within is joins begins hit = hit q (k + 1) d (record { some = omega arith; joins = λ i h. joins i (omega arith); ends = λ j. onward fuel p q (k + 1) d (omega (arith, bound)) (omega arith) (omega arith) is (λ i h. more i h (subst (λ n. Joins axis entity g m (further axis n q)) (omega arith) j) (cases_lt i k)) begins hit; begins = begins }) (omega arith) is
    where
      more : (i : ℕ) → i < k + 1 → Joins axis entity g m (further axis k q) → (i < k) ⊎ (k ≤ i) → Joins axis entity g m (further axis i q)
      more i h j (inl l) = joins i l
      more i h j (inr l) = subst (λ n. Joins axis entity g m (further axis n q)) (omega arith) j

  came_before : (x : Axis) (r q : Position) → further x 1 r ≡ q → q.row + q.col ≡ r.row + r.col + 1
  came_before Rows r q e = omega (arith, ap (λ (y : Position). y.row) e, ap (λ (y : Position). y.col) e)
  came_before Columns r q e = omega (arith, ap (λ (y : Position). y.row) e, ap (λ (y : Position). y.col) e)

  -- and back to that cell
  back : (fuel : ℕ) (p q : Position) (k d : ℕ) → q.row + q.col ≤ fuel → 1 ≤ k → d < k → further axis d q ≡ p → ((i : ℕ) → i < k → Joins axis entity g m (further axis i q)) → ((a : Position) (many i : ℕ) → IsRun axis entity g m a many → i < many → further axis i a ≡ p → ⊥) → ⊥
  back zero p q k d bound some within is joins hit = onward (g.rows + g.columns) p q k d (omega arith) some within is joins (λ r e j. let f = came_before axis r q e in omega (arith, f, bound)) hit
  back (suc fuel) p q k d bound some within is joins hit = onward (g.rows + g.columns) p q k d (omega arith) some within is joins (λ r e j. back fuel p r (k + 1) (d + 1) (let f = came_before axis r q e in omega (arith, f, bound)) (omega arith) (omega arith) (sym (further_back axis d (d + 1) r q e refl) ∙ is) (λ i h. more r e j i h (cases_lt 0 i)) hit) hit
    where
      more : (r : Position) → further axis 1 r ≡ q → Joins axis entity g m r → (i : ℕ) → i < k + 1 → (0 < i) ⊎ (i ≤ 0) → Joins axis entity g m (further axis i r)
      more r e j i h (inl l) = subst (Joins axis entity g m) (further_back axis (i - 1) i r q e (omega arith)) (joins (i - 1) (omega arith))
      more r e j i h (inr l) = subst (Joins axis entity g m) (sym (further_none axis r) ∙ ap (λ n. further axis n r) (omega arith)) j

  pub in_a_run : (p : Position) → Joins axis entity g m p → ((a : Position) (many i : ℕ) → IsRun axis entity g m a many → i < many → further axis i a ≡ p → ⊥) → ⊥
  in_a_run p j hit = back (p.row + p.col) p p 1 0 (omega arith) (omega arith) (omega arith) (further_none axis p) (λ i h. subst (Joins axis entity g m) (sym (further_none axis p) ∙ ap (λ n. further axis n p) (omega arith)) j) hit

  module _ (n : SpanMap) (merged : MergesRuns axis entity g m n) where
    anchor_size : (a : Position) (many : ℕ) → IsRun axis entity g m a many → (many' : ℕ) × IsRun axis entity g m a many' × (get n a ≡ Some (size_of_run axis many'))
    anchor_size a many run = elim (merged.each a) [ inl it ↦ it | inr it ↦ absurd (it.0 many run) ]

    first_free : (a : Position) (many : ℕ) → IsRun axis entity g m a many → is_free m a ≡ true
    first_free a many run = subst (λ x. is_free m x ≡ true) (further_none axis a) (run_cell axis entity g m a many 0 run (omega (arith, run.some))).free

    -- what is hidden stays hidden
    pub hidden_still : (p : Position) → is_hidden m p ≡ true → is_hidden n p ≡ true
    hidden_still p h = let it = hidden_by m p h in hidden_by_anchor it.anchor it.size it.has it.holds it.other (merged.each it.anchor)
      where
        hidden_by_anchor : (a : Position) (s : Size) → get m a ≡ Some s → In (rectangle a s) p → a ≢ p → ((k : ℕ) × IsRun axis entity g m a k × (get n a ≡ Some (size_of_run axis k))) ⊎ (((k : ℕ) → IsRun axis entity g m a k → ⊥) × (get n a ≡ get m a)) → is_hidden n p ≡ true
        hidden_by_anchor a s has holds other (inl (k, run, is)) =
            let one : s ≡ sized 1 1 = sym (size_at-some m a s has) ∙ free_size m a (first_free a k run) in
            let h1 = subst (λ (t : Size). In (rectangle a t) p) one holds in
            absurd (other (ap₂ place (omega (arith, h1.top, h1.bottom)) (omega (arith, h1.left, h1.right))))
        hidden_by_anchor a s has holds other (inr (never, is)) = hidden-from n a p s (is ∙ has) holds other

    was_visible : (p : Position) → is_visible n p ≡ true → is_visible m p ≡ true
    was_visible p shown = not_from_false (is_hidden m p) (false_from_ne_true (is_hidden m p) (λ hidden. false≢true (sym (not_from_true _ (hidden_still p hidden)) ∙ shown)))

    was_free : (p : Position) → is_free n p ≡ true → is_free m p ≡ true
    was_free p free = grind (arith, common_steps, free_by, was_visible, not_one, size_at-some, free_size)

    was_joined : (p : Position) → Joins axis entity g n p → Joins axis entity g m p
    was_joined p j = record { here = j.here; next = j.next; free = was_free p j.free; next_free = was_free (further axis 1 p) j.next_free; same = j.same }

    covers : (x : Axis) (a : Position) (many k : ℕ) → 2 ≤ many → k < many → In (rectangle a (size_of_run x many)) (further x k a)
    covers Rows a many k some h = record { top = omega arith; bottom = omega arith; left = omega arith; right = omega arith }
    covers Columns a many k some h = record { top = omega arith; bottom = omega arith; left = omega arith; right = omega arith }

    apart_from : (x : Axis) (a : Position) (k : ℕ) → 0 < k → a ≢ further x k a
    apart_from Rows a k h e = omega (arith, ap (λ (y : Position). y.row) e)
    apart_from Columns a k h e = omega (arith, ap (λ (y : Position). y.col) e)

    -- no cell of a run is free any more
    none_free : (p : Position) → is_free n p ≡ true → (a : Position) (many k : ℕ) → IsRun axis entity g m a many → k < many → further axis k a ≡ p → ⊥
    none_free p free a many k run h is = none_behind (anchor_size a many run) (cases_lt 0 k)
      where
        none_behind : (b : ℕ) × IsRun axis entity g m a b × (get n a ≡ Some (size_of_run axis b)) → (0 < k) ⊎ (k ≤ 0) → ⊥
        none_behind (b, other, has) (inl l) =
            let long : k < b = omega (arith, h, same_run axis entity g m a many b run other) in
            let hidden : is_hidden n p ≡ true = hidden-from n a p (size_of_run axis b) has (subst (In (rectangle a (size_of_run axis b))) is (covers axis a b k other.some long)) (λ e. apart_from axis a k l (e ∙ sym is)) in
            false≢true (sym (not_from_true _ hidden) ∙ (and_parts _ _ free).0)
        none_behind (b, other, has) (inr l) =
            let here : a ≡ p = sym (further_none axis a) ∙ ap (λ i. further axis i a) (omega arith) ∙ is in
            not_one axis b other.some (sym (size_at-some n a (size_of_run axis b) has) ∙ ap (size_at n) here ∙ free_size n p free)

    pub no_more : (p : Position) (many : ℕ) → IsRun axis entity g n p many → ⊥
    no_more p many run =
        let j : Joins axis entity g n p = subst (Joins axis entity g n) (further_none axis p) (run.joins 0 (omega (arith, run.some))) in
        in_a_run p (was_joined p j) (none_free p j.free)

    pub merged_once : (k : SpanMap) → MergesRuns axis entity g n k → k ≡ n
    merged_once k again = same_map k n (λ p. elim (again.each p) [ inl run ↦ absurd (no_more p run.0 run.1) | inr old ↦ old.1 ])

-- without rectangles no size is found, and each cell is free
get-empty : (p : Position) → get empty p ≡ None
get-empty p = ap (λ (m : SpanMap). get m p) empty-is ∙ get-map_of [] p (record { sorted = tt; sizes = tt })

free_in_none : (p : Position) → is_free empty p ≡ true
free_in_none p = free_by empty p (not_from_false (is_hidden empty p) (false_from_ne_true (is_hidden empty p) (λ hidden. let by = hidden_by empty p hidden in none-some by.size (sym (get-empty by.anchor) ∙ by.has)))) (ap (λ o. unwrap_or o (sized 1 1)) (get-empty p))

pub joins_in_none : (axis : Axis) (entity : Entity) (g : Grid (List ℕ)) (p : Position) → IsNamed entity g p → IsNamed entity g (further axis 1 p) → cell_at g p ≡ cell_at g (further axis 1 p) → Joins axis entity g empty p
joins_in_none axis entity g p here next same = record { here = here; next = next; free = free_in_none p; next_free = free_in_none (further axis 1 p); same = same }

pub run_is_merged : (axis : Axis) (entity : Entity) (g : Grid (List ℕ)) (n : SpanMap) (p : Position) (many : ℕ) → MergesRuns axis entity g empty n → IsRun axis entity g empty p many → get n p ≡ Some (size_of_run axis many)
run_is_merged axis entity g n p many merged run = elim (merged.each p) [
  | inl it ↦ it.2 ∙ ap (λ b. Some (size_of_run axis b)) (same_run axis entity g empty p it.0 many it.1 run)
  | inr it ↦ absurd (it.0 many run)
]

pub merged_is_run : (axis : Axis) (entity : Entity) (g : Grid (List ℕ)) (n : SpanMap) (p : Position) (size : Size) → MergesRuns axis entity g empty n → get n p ≡ Some size → (many : ℕ) × IsRun axis entity g empty p many × (size ≡ size_of_run axis many)
merged_is_run axis entity g n p size merged has = elim (merged.each p) [
  | inl it ↦ (it.0, it.1, same_Some size (size_of_run axis it.0) (sym has ∙ it.2))
  | inr it ↦ absurd (none-some size (sym (get-empty p) ∙ sym it.1 ∙ has))
]
