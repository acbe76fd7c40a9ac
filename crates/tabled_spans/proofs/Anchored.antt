-- What a search of the anchors tells.
use Rattle.tabled_spans.proofs.Common.{[], ◌&&◌, ◌-◌, ◌<◌, ◌==◌, ◌∙◌, ◌∷◌, ◌≡◌, ◌≤◌, ◌⊎◌, AllByRecursion, AreSorted, Below, Bool, Err, IsBefore, IsBinarySearchResult, IsSearchInRange, List, MatchResult, None, Ok, Position, Rectangle, Result, Size, Some, SpanMap, StandBelow, ap, arith, below_at, both, cases_Bool, cond, drop, drop_all, before-less, equal, false, find_at, get, get-rectangles, get_or, inl, inr, is_cell, is_eq, length, ne_eqb, not, position_cmp, positions_exact, rectangle, rectangles, rectangles_sorted, refl, searched, size_at, sized, span_at, subst, suc, sym, take, true, zero, ℕ}
use Rattle.std.specs.Result.{is_ok}
use Rattle.tabled_grid.proofs.SortedEntries.{halves}
use Rattle.tabled_spans.proofs.RunLists.{all_then}

-- an anchor in another row isn't found
none_apart : (p : Position) (es : List Rectangle) → AllByRecursion (λ (e : Rectangle). p.row ≡ e.first.row → ⊥) es → find_at p es ≡ None
none_apart p [] apart = refl
none_apart p (e ∷ es) apart = elim (cases_Bool (is_eq (position_cmp p e.first))) [
  | inl t ↦ absurd (apart.0 (ap (λ (q : Position). q.row) (positions_exact p e.first (equal _ t))))
  | inr f ↦ ap (λ b. cond b (Some e.size) (find_at p es)) f ∙ none_apart p es apart.1
]

-- where the others stand below its row, a place is found among the first
found_first : (p : Position) (n : ℕ) (es : List Rectangle) → AllByRecursion (λ (e : Rectangle). p.row < e.first.row) (drop n es) → find_at p (take n es) ≡ find_at p es
found_first p zero [] below = refl
found_first p (suc n) [] below = refl
found_first p zero (e ∷ es) below = sym (none_apart p (e ∷ es) (all_then (λ f low same. omega (arith, low, same)) (e ∷ es) below))
found_first p (suc n) (e ∷ es) below = ap (cond (is_eq (position_cmp p e.first)) (Some e.size)) (found_first p n es below)

below_take : (p : Position) (n : ℕ) (es : List Rectangle) → Below p es → Below p (take n es)
below_take p zero [] below = tt
below_take p (suc n) [] below = tt
below_take p zero (e ∷ es) below = tt
below_take p (suc n) (e ∷ es) below = both _ _ (halves _ _ below).0 (below_take p n es (halves _ _ below).1)

-- the first of a sorted list are sorted
sorted_take : (n : ℕ) (es : List Rectangle) → AreSorted es → AreSorted (take n es)
sorted_take zero [] up = tt
sorted_take (suc n) [] up = tt
sorted_take zero (e ∷ es) up = tt
sorted_take (suc n) (e ∷ es) up = both _ _ (below_take e.first n es (halves _ _ up).0) (sorted_take n es (halves _ _ up).1)

-- rows rise
rows_rise : (k : ℕ) (es : List Rectangle) (d : Rectangle) → AreSorted es → k < length es → AllByRecursion (λ (e : Rectangle). e.first.row ≤ (get_or es k d).first.row) (take (suc k) es)
rows_rise k [] d up within = absurd (omega arith)
rows_rise zero (e ∷ es) d up within = (omega arith, tt)
rows_rise (suc k) (e ∷ es) d up within = (up_row _ _ (before-less e.first (get_or es k d).first (below_at e.first es k d (halves _ _ up).0 (omega arith))), rows_rise k es d (halves _ _ up).1 (omega arith))
  where
    up_row : (a b : Position) → IsBefore a b → a.row ≤ b.row
    up_row a b (inl l) = omega (arith, l)
    up_row a b (inr l) = omega (arith, l.0)

-- the size of a place where none is anchored
no_anchor : (m : SpanMap) (p : Position) → get m p ≡ None → false ≡ not (is_cell (size_at m p))
no_anchor m p none = rw none refl

module _ (m : SpanMap) (p : Position) (many : ℕ) (s : StandBelow m p.row many) where
  -- without anchors in its row and further up, or with the last of them further up, no rectangle is anchored at the place
  pub none_left : many ≡ 0 → false ≡ not (is_cell (size_at m p))
  none_left z = no_anchor m p (get-rectangles m p ∙ sym (found_first p many (rectangles m) s.below) ∙ ap (λ n. find_at p (take n (rectangles m))) z)

  pub none_past : (d : Rectangle) → 0 < many → (get_or (rectangles m) (many - 1) d).first.row < p.row → false ≡ not (is_cell (size_at m p))
  none_past d some past =
      let last : suc (many - 1) ≡ many = omega arith in
      let rows = subst (λ n. AllByRecursion (λ (e : Rectangle). e.first.row ≤ (get_or (rectangles m) (many - 1) d).first.row) (take n (rectangles m))) last (rows_rise (many - 1) (rectangles m) d (rectangles_sorted m) (omega (arith, s.within))) in
      no_anchor m p (get-rectangles m p ∙ sym (found_first p many (rectangles m) s.below) ∙ none_apart p (take many (rectangles m)) (all_then (λ e low same. omega (arith, low, same, past)) (take many (rectangles m)) rows))

  -- a search of the first anchors finds a place where its size isn't that of one cell
  pub anchor_found : (r : Result ℕ ℕ) → IsSearchInRange r (length (take many (rectangles m))) → IsBinarySearchResult (λ (e : Rectangle). position_cmp e.first p) (take many (rectangles m)) r → is_ok r ≡ not (is_cell (size_at m p))
  anchor_found r within found = tell r (searched (take many (rectangles m)) p r (sorted_take many (rectangles m) (rectangles_sorted m)) within found)
    where
      second : (a : Bool) → (a && false) ≡ false
      second true = refl
      second false = refl

      more : (size : Size) → (1 < size.height) ⊎ (1 < size.width) → is_cell size ≡ false
      more size (inl h) = rw (ne_eqb size.height 1 (λ e. omega (arith, h, e))) refl
      more size (inr h) = rw (ne_eqb size.width 1 (λ e. omega (arith, h, e))) (second (size.height == 1))

      tell : (r : Result ℕ ℕ) → MatchResult r (λ i. (d : Rectangle) → find_at p (take many (rectangles m)) ≡ Some (get_or (take many (rectangles m)) i d).size) (λ i. find_at p (take many (rectangles m)) ≡ None) → is_ok r ≡ not (is_cell (size_at m p))
      tell (Ok i) at =
          let is = get-rectangles m p ∙ sym (found_first p many (rectangles m) s.below) ∙ at (rectangle p (sized 1 1)) in
          rw (is, more _ (span_at m p _ is).merges) refl
      tell (Err i) none = no_anchor m p (get-rectangles m p ∙ sym (found_first p many (rectangles m) s.below) ∙ none)

-- what stands below a row stands below those above it
pub stand_higher : (m : SpanMap) (row higher many : ℕ) → higher ≤ row → StandBelow m row many → StandBelow m higher many
stand_higher m row higher many h s = record { within = s.within; below = all_then (λ e low. omega (arith, low, h)) (drop many (rectangles m)) s.below }

-- no anchor is left to stand below a row
pub stand_none : (m : SpanMap) (row : ℕ) → StandBelow m row (length (rectangles m))
stand_none m row = record { within = omega arith; below = subst (AllByRecursion (λ (e : Rectangle). row < e.first.row)) (sym (drop_all (length (rectangles m)) (rectangles m) (omega arith))) tt }
