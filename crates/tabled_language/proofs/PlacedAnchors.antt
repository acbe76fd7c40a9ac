-- Rectangles fit in any order, or in none.
use Rattle.tabled_language.proofs.Common.{[], ◌&&◌, ◌++◌, ◌+◌, ◌<◌, ◌∙◌, ◌∷◌, ◌≡◌, ◌≤◌, ◌⊎◌, All-from_recursion, All-permutation, AllByRecursion, AreAnchors, AreSorted, AreSpans, Bool, Equal, Greater, IsPermutation-sym, IsSpan, Less, List, Ordering, Position, Rectangle, RowsRise, Size, Some, and_from, and_parts, ap, arith, both, cases_Bool, cases_lt, false, false_from_ne_true, false≢true, find_at, get-from_rectangles, get-map_of, get_or, halves, fits_among, is_lt, all_fit, lies_inside, list_all, list_all-append, list_any, lt-ltb, map_of, meets, meets-from, meets-turned, none-some, not, not-true, not_from_false, ordering_reverse, position_cmp, positions_exact, positions_total, rectangle, recursion_from_All, refl, same_map, from_rectangles, subst, suc, sym, true, true≢false, ℕ, inl, inr, is_less}
use Rattle.std.specs.Prelude.{◌||◌, None, Option}
use Rattle.std.proofs.Math.Numerals.{add-one}
use Rattle.std.specs.List.{IsDistinct}
use Rattle.std.specs.List.Sorted.{IsPermutation, IsSortedByKey}
use Rattle.std.proofs.lemmas.Map.Keys.{IsDistinct-IsPermutation}
use Rattle.tabled_grid.proofs.Members.{Member, find-member, member-find, member-moved, sorted-find}
use Rattle.tabled_grid.proofs.MergedAnchors.{below_more}

module _ (rows columns : ℕ) where
  -- those in front fit where all do
  pub fit-left : (es fs : List Rectangle) → all_fit rows columns (es ++ fs) ≡ true → all_fit rows columns es ≡ true
  fit-left [] fs h = refl
  fit-left (e ∷ es) fs h =
      let parts = and_parts (fits_among rows columns (es ++ fs) e) _ h in
      let here = and_parts (lies_inside rows columns e) _ parts.0 in
      let apart = and_parts _ _ (sym (list_all-append (λ (f : Rectangle). not (meets e f)) es fs) ∙ here.1) in
      and_from _ _ (and_from _ _ here.0 apart.0) (fit-left es fs parts.1)

  -- one more does where it fits among those in front of it
  pub fit-push : (es : List Rectangle) (e : Rectangle) → all_fit rows columns (es ++ e ∷ []) ≡ (all_fit rows columns es && fits_among rows columns es e)
  fit-push [] e = alone (lies_inside rows columns e)
    where
      alone : (i : Bool) → ((i && true) && true) ≡ (i && true)
      alone true = refl
      alone false = refl
  fit-push (f ∷ es) e =
      rw (list_all-append (λ (g : Rectangle). not (meets f g)) es (e ∷ []), fit-push es e, meets-turned f e)
      (moved (lies_inside rows columns f) (list_all (λ (g : Rectangle). not (meets f g)) es) (not (meets e f)) (all_fit rows columns es) (lies_inside rows columns e) (list_all (λ (g : Rectangle). not (meets e g)) es))
    where
      moved : (a b m w i y : Bool) → ((a && (b && (m && true))) && (w && (i && y))) ≡ (((a && b) && w) && (i && (m && y)))
      moved false b m w i y = refl
      moved true false m w i y = refl
      moved true true true w i y = refl
      moved true true false true true y = refl
      moved true true false true false y = refl
      moved true true false false i y = refl

  -- all lie inside, and none shares a cell with one after it
  record Placed (es : List Rectangle) : Type 0 where
    inside : AllByRecursion (λ (e : Rectangle). lies_inside rows columns e ≡ true) es
    apart : IsDistinct meets es

  all-apart : (e : Rectangle) (es : List Rectangle) → list_all (λ (f : Rectangle). not (meets e f)) es ≡ true → AllByRecursion (λ (f : Rectangle). meets e f ≡ false) es
  all-apart e [] h = tt
  all-apart e (f ∷ es) h = let parts = and_parts _ _ h in (not-true _ parts.0, all-apart e es parts.1)

  apart-all : (e : Rectangle) (es : List Rectangle) → AllByRecursion (λ (f : Rectangle). meets e f ≡ false) es → list_all (λ (f : Rectangle). not (meets e f)) es ≡ true
  apart-all e [] h = refl
  apart-all e (f ∷ es) h = and_from _ _ (not_from_false _ h.0) (apart-all e es h.1)

  placed-from : (es : List Rectangle) → all_fit rows columns es ≡ true → Placed es
  unfolding IsDistinct
  placed-from [] h = record { inside = tt; apart = tt }
  placed-from (e ∷ es) h =
      let parts = and_parts (fits_among rows columns es e) _ h in
      let here = and_parts (lies_inside rows columns e) _ parts.0 in
      let rest = placed-from es parts.1 in
      record { inside = (here.0, rest.inside); apart = (all-apart e es here.1, rest.apart) }

  placed-to : (es : List Rectangle) → Placed es → all_fit rows columns es ≡ true
  unfolding IsDistinct
  placed-to [] p = refl
  placed-to (e ∷ es) p = and_from _ _ (and_from _ _ p.inside.0 (apart-all e es p.apart.0)) (placed-to es (record { inside = p.inside.1; apart = p.apart.1 }))

  fit-moved : (es fs : List Rectangle) → IsPermutation es fs → all_fit rows columns es ≡ true → all_fit rows columns fs ≡ true
  fit-moved es fs moved h =
      let p = placed-from es h in
      placed-to fs (record {
        inside = recursion_from_All _ fs (All-permutation (λ (e : Rectangle). lies_inside rows columns e ≡ true) es fs moved (All-from_recursion _ es p.inside));
        apart = IsDistinct-IsPermutation meets meets-turned es fs moved p.apart;
      })

  -- rectangles fit just where they do in order
  pub fit-any_order : (es fs : List Rectangle) → IsPermutation es fs → all_fit rows columns fs ≡ all_fit rows columns es
  fit-any_order es fs moved = well_or_not (cases_Bool (all_fit rows columns fs))
    where
      well_or_not : (all_fit rows columns fs ≡ true) ⊎ (all_fit rows columns fs ≡ false) → all_fit rows columns fs ≡ all_fit rows columns es
      well_or_not (inl well) = well ∙ sym (fit-moved fs es (IsPermutation-sym es fs moved) well)
      well_or_not (inr not_well) = not_well ∙ sym (false_from_ne_true _ (λ well. true≢false (sym (fit-moved es fs moved well) ∙ not_well)))

-- two rectangles that begin at one place share a cell
same_meet : (e f : Rectangle) → IsSpan e.size → IsSpan f.size → e.first ≡ f.first → meets e f ≡ true
same_meet e f s t same =
    let r : e.first.row ≡ f.first.row = ap (λ (p : Position). p.row) same in
    let c : e.first.col ≡ f.first.col = ap (λ (p : Position). p.col) same in
    meets-from e f (record { above = omega (arith, r, t.height); below = omega (arith, r, s.height); left = omega (arith, c, t.width); right = omega (arith, c, s.width) })

-- neighbours in order that share no cell rise
rises : (e f : Rectangle) → meets e f ≡ false → IsSpan e.size → IsSpan f.size → is_lt (position_cmp f.first e.first) ≡ false → (o : Ordering) → position_cmp e.first f.first ≡ o → position_cmp e.first f.first ≡ Less
rises e f apart s t low Less is = is
rises e f apart s t low Equal is = absurd (true≢false (sym (same_meet e f s t (positions_exact e.first f.first is)) ∙ apart))
rises e f apart s t low Greater is = absurd (false≢true (sym low ∙ ap is_lt (positions_total.antisymm f.first e.first ∙ ap ordering_reverse is)))

-- so sorted ones that fit have one at each anchor
sorted-fit : (rows columns : ℕ) (es : List Rectangle) → AreSpans es → all_fit rows columns es ≡ true → IsSortedByKey (λ (e : Rectangle). e.first) position_cmp es → AreSorted es
sorted-fit rows columns [] sizes well up = tt
sorted-fit rows columns (e ∷ []) sizes well up = tt
sorted-fit rows columns (e ∷ f ∷ es) sizes well up =
    let parts = and_parts (fits_among rows columns (f ∷ es) e) _ well in
    let apart : meets e f ≡ false = not-true _ (and_parts _ (list_all (λ (g : Rectangle). not (meets e g)) es) (and_parts (lies_inside rows columns e) _ parts.0).1).0 in
    let step : position_cmp e.first f.first ≡ Less = rises e f apart sizes.0 sizes.1.0 (up 0 e (omega arith) (omega arith)) (position_cmp e.first f.first) refl in
    let rest : AreSorted (f ∷ es) = sorted-fit rows columns (f ∷ es) sizes.1 parts.1 (λ k d low high. rw add-one (rw add-one at (up (suc k) d (omega arith) (omega (arith, high))))) in
    both _ _ (both _ _ (is_less _ step) (below_more e.first f.first es step (halves _ _ rest).0)) rest

-- what is found among rectangles, whatever their order
same_found : (es fs : List Rectangle) → IsPermutation es fs → AreSorted fs → (q : Position) → find_at q es ≡ find_at q fs
same_found es fs moved up q = found_or_not (find_at q es) (find_at q fs) refl refl
  where
    never : (w : Size) → find_at q es ≡ None → (v : Size) × (find_at q es ≡ Some v) → ⊥
    never w none found = none-some found.0 (sym none ∙ found.1)

    found_or_not : (x y : Option Size) → find_at q es ≡ x → find_at q fs ≡ y → x ≡ y
    found_or_not None None a b = refl
    found_or_not None (Some w) a b = absurd (never w a (member-find es (rectangle q w) (member-moved (rectangle q w) fs es (IsPermutation-sym es fs moved) (find-member fs q w b))))
    found_or_not (Some v) y a b = sym (sorted-find fs (rectangle q v) up (member-moved (rectangle q v) es fs moved (find-member es q v a))) ∙ b

-- what sorting gives
pub record InOrder (es fs : List Rectangle) : Type 0 where
  pub moved : IsPermutation es fs
  pub given : AreSpans es
  pub sizes : AreSpans fs
  pub up : IsSortedByKey (λ (e : Rectangle). e.first) position_cmp fs

pub in_order : (es given fs : List Rectangle) → given ≡ es → IsPermutation given fs → AreSpans es → IsSortedByKey (λ (e : Rectangle). e.first) position_cmp fs → InOrder es fs
in_order es given fs is permuted sizes up =
    let moved : IsPermutation es fs = subst (λ (gs : List Rectangle). IsPermutation gs fs) is permuted in
    record { moved = moved; given = sizes; sizes = recursion_from_All _ fs (All-permutation (λ (e : Rectangle). IsSpan e.size) es fs moved (All-from_recursion _ es sizes)); up = up }

-- places come row by row
row_le : (p q : Position) → is_lt (position_cmp q p) ≡ false → p.row ≤ q.row
row_le p q low = unless_below (cases_lt q.row p.row)
  where
    unless_below : (q.row < p.row) ⊎ (p.row ≤ q.row) → p.row ≤ q.row
    unless_below (inl below) = absurd (true≢false (sym (rw (lt-ltb q.row p.row below) refl) ∙ low))
    unless_below (inr past) = past

-- so sorted rectangles rise by rows
pub rows_rise : (es fs : List Rectangle) → InOrder es fs → RowsRise fs
rows_rise es fs h k d high = row_le (get_or fs k d).first (get_or fs (k + 1) d).first (h.up k d (omega arith) high)

-- sorted rectangles that fit are those of the map of all
pub map_of_sorted : (rows columns : ℕ) (es fs : List Rectangle) → InOrder es fs → all_fit rows columns fs ≡ true → AreAnchors fs × (map_of fs ≡ from_rectangles es)
map_of_sorted rows columns es fs h well =
    let up = sorted-fit rows columns fs h.sizes well h.up in
    let valid : AreAnchors fs = record { sorted = up; sizes = h.sizes } in
    (valid, same_map _ _ (λ q. get-map_of fs q valid ∙ sym (same_found es fs h.moved up q) ∙ sym (get-from_rectangles es q h.given)))
