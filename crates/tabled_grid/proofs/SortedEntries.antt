-- Rectangles whose anchors rise: what a binary search finds in them, what an edit leaves, and the maps that they make.
use Rattle.tabled_grid.proofs.Common.{[], ◌&&◌, ◌<◌, ◌∙◌, ◌∷◌, ◌≡◌, ◌≤◌, ◌⊎◌, All-filter, All-from_recursion, AllByRecursion, AllWithin, AreAnchors, AreSorted, Bool, Equal, Err, FinMap, Greater, IsAntisymmetric, IsBinarySearchResult, IsNonDecreasingBy, IsSearchInRange, IsSpan, IsTotalOrder, Less, List, MatchResult, None, Ok, Option, Ordering, Position, Rectangle, Result, Size, Some, SpanMap, T, add-one, anchors-spans_of, and_from, and_parts, ap, arith, below_all, by_order, cases_lt, cond, elsewhere, entries, entries-from_sorted, entries_sorted, eq_by_cmp, eq_by_cmp_equiv, false, filter, find, find-put, find-where_key, from_sorted, get, get-entries, get-from_sorted, get_or, have_spans, inl, inr, insert, is_eq, is_lt, is_sorted, is_sorted-put, is_sorted-where_key, is_span, le-leb, leb-true, length, lt-ltb, ltb-true, map_of, nat_cmp, nat_cmp_total, none-some, not, of_pairs, on_total, or_cases, or_left, or_right, ordering_index, ordering_reverse, pairs, position_cmp, put, rectangle, rectangles, recursion_from_All, refl, remove, same_Some, same_spans, searchable_from_sorted, set, subst, suc, sym, then_total, true, where_key, zero, ℕ}
use Rattle.std.specs.FinMap as finite
use Rattle.tabled_grid.specs.Spans as spans
use Rattle.tabled_grid.specs.Spans.{empty-is, from_rectangles}
use Rattle.std.proofs.lemmas.Map.Lookups.{exact_pairs, exact_unsigned}

-- places that compare alike are one
pub positions_exact : IsAntisymmetric position_cmp
positions_exact p q h = ap (λ (pair : ℕ × ℕ). let place : Position = record { row = pair.0; col = pair.1 } in place) (exact_pairs nat_cmp nat_cmp exact_unsigned exact_unsigned (p.row, p.col) (q.row, q.col) h)

pub positions_total : IsTotalOrder position_cmp
positions_total = then_total (on_total (λ (p : Position). p.row) nat_cmp_total) (on_total (λ (p : Position). p.col) nat_cmp_total)

-- the two halves of a test, and a test of them
pub halves : (a b : Bool) → T (a && b) → T a × T b
halves true b h = (tt, h)
halves false b h = absurd h

pub both : (a b : Bool) → T a → T b → T (a && b)
both true b p q = q
both false b p q = p

pub less : (o : Ordering) → T (is_lt o) → o ≡ Less
less Less h = refl
less Equal h = absurd h
less Greater h = absurd h

pub is_less : (o : Ordering) → o ≡ Less → T (is_lt o)
is_less o e = rw e tt

pub above : (p q : Position) → position_cmp p q ≡ Less → position_cmp q p ≡ Greater
above p q h = positions_total.antisymm q p ∙ ap ordering_reverse h

turned : {A : Type 0} (b : Bool) (x y : A) → cond (not b) x y ≡ cond b y x
turned true x y = refl
turned false x y = refl

-- the place comes before all anchors
abbrev pub Below : Position → List Rectangle → Type 0
Below p es = T (below_all position_cmp p (pairs es))

-- the size of the first rectangle that is anchored at the place
abbrev pub find_at : Position → List Rectangle → Option Size
find_at p es = find position_cmp p (pairs es)

-- rectangles as pairs, and back
pub of_pairs-pairs : (es : List Rectangle) → of_pairs (pairs es) ≡ es
of_pairs-pairs [] = refl
of_pairs-pairs (e ∷ es) = ap (λ fs. e ∷ fs) (of_pairs-pairs es)

pub pairs-of_pairs : (ps : List (Position × Size)) → pairs (of_pairs ps) ≡ ps
pairs-of_pairs [] = refl
pairs-of_pairs (p ∷ ps) = ap (λ qs. p ∷ qs) (pairs-of_pairs ps)

pub pairs-filter : (test : Position → Bool) (es : List Rectangle) → pairs (filter (λ (e : Rectangle). test e.first) es) ≡ where_key position_cmp test (pairs es)
pairs-filter test [] = refl
pairs-filter test (e ∷ es) = elim (test e.first) as (λ b. pairs (cond b (e ∷ filter (λ (f : Rectangle). test f.first) es) (filter (λ (f : Rectangle). test f.first) es)) ≡ cond b ((e.first, e.size) ∷ where_key position_cmp test (pairs es)) (where_key position_cmp test (pairs es))) [ true ↦ ap (λ ps. (e.first, e.size) ∷ ps) (pairs-filter test es) | false ↦ pairs-filter test es ]

-- the test of a size says what it says
pub span-true : (size : Size) → is_span size ≡ true → IsSpan size
span-true size t =
    let parts = and_parts _ _ t in
    let each = and_parts _ _ parts.0 in
    record { height = leb-true _ _ each.0; width = leb-true _ _ each.1; merges = elim (or_cases _ _ parts.1) [ inl h ↦ inl (ltb-true _ _ h) | inr h ↦ inr (ltb-true _ _ h) ] }

pub span-from : (size : Size) → IsSpan size → is_span size ≡ true
span-from size is = and_from _ _ (and_from _ _ (le-leb _ _ is.height) (le-leb _ _ is.width)) (elim is.merges [ inl h ↦ or_left _ _ (lt-ltb _ _ h) | inr h ↦ or_right _ _ (lt-ltb _ _ h) ])

abbrev pub HasSize : Rectangle → Type 0
HasSize anchor = IsSpan anchor.size

pub spans-listed : (es : List Rectangle) → AllByRecursion HasSize es → have_spans (pairs es) ≡ true
spans-listed [] all = refl
spans-listed (e ∷ es) all = and_from _ _ (span-from e.size all.0) (spans-listed es all.1)

pub listed-spans : (ps : List (Position × Size)) → have_spans ps ≡ true → AllByRecursion HasSize (of_pairs ps)
listed-spans [] h = tt
listed-spans (p ∷ ps) h = let parts = and_parts _ _ h in (span-true p.1 parts.0, listed-spans ps parts.1)

-- the rectangles of a map, and the map of rectangles
pub rectangles_sorted : (m : SpanMap) → AreSorted (rectangles m)
rectangles_sorted m = subst (λ ps. T (is_sorted position_cmp ps)) (sym (pairs-of_pairs (entries m.anchors))) (entries_sorted m.anchors)

pub rectangles_anchors : (m : SpanMap) → AreAnchors (rectangles m)
rectangles_anchors m = record { sorted = rectangles_sorted m; sizes = listed-spans (entries m.anchors) m.proper }

anchors-map_of : (es : List Rectangle) → AreAnchors es → (map_of es).anchors ≡ from_sorted (pairs es)
anchors-map_of es valid = anchors-spans_of (from_sorted (pairs es)) (ap have_spans (entries-from_sorted position_cmp (pairs es) valid.sorted) ∙ spans-listed es valid.sizes)

pub rectangles-map_of : (es : List Rectangle) → AreAnchors es → rectangles (map_of es) ≡ es
rectangles-map_of es valid = ap (λ (a : FinMap position_cmp Size). of_pairs (entries a)) (anchors-map_of es valid) ∙ ap of_pairs (entries-from_sorted position_cmp (pairs es) valid.sorted) ∙ of_pairs-pairs es

pub get-rectangles : (m : SpanMap) (p : Position) → get m p ≡ find_at p (rectangles m)
get-rectangles m p = get-entries m.anchors p ∙ ap (find position_cmp p) (sym (pairs-of_pairs (entries m.anchors)))

pub get-map_of : (es : List Rectangle) (p : Position) → AreAnchors es → get (map_of es) p ≡ find_at p es
get-map_of es p valid = ap (λ (a : FinMap position_cmp Size). finite.get a p) (anchors-map_of es valid) ∙ get-from_sorted position_cmp (pairs es) p valid.sorted

-- maps that have the same at each place are one
pub same_map : (m n : SpanMap) → ((q : Position) → get m q ≡ get n q) → m ≡ n
same_map m n is = same_spans m n (finite.same_map positions_total positions_exact m.anchors n.anchors is)

pub map_of-rectangles : (m : SpanMap) → map_of (rectangles m) ≡ m
map_of-rectangles m = same_map (map_of (rectangles m)) m (λ q. get-map_of (rectangles m) q (rectangles_anchors m) ∙ sym (get-rectangles m q))

-- what is found in a list of rectangles is the size of one of them
found_size : (es : List Rectangle) (p : Position) (size : Size) → AllByRecursion HasSize es → find_at p es ≡ Some size → IsSpan size
found_size [] p size all is = absurd (none-some size is)
found_size (e ∷ es) p size all is = at_first (is_eq (position_cmp p e.first)) (found_size es p size all.1) is
  where
    at_first : (b : Bool) → (find_at p es ≡ Some size → IsSpan size) → cond b (Some e.size) (find_at p es) ≡ Some size → IsSpan size
    at_first true later h = subst IsSpan (same_Some e.size size h) all.0
    at_first false later h = later h

-- each size that a map has is that of more than one cell
pub span_at : (m : SpanMap) (p : Position) (size : Size) → get m p ≡ Some size → IsSpan size
span_at m p size is = found_size (rectangles m) p size (rectangles_anchors m).sizes (sym (get-rectangles m p) ∙ is)

-- anchors whose places pass a test, and what their map has
pub filter_anchors : (test : Position → Bool) (es : List Rectangle) → AreAnchors es → AreAnchors (filter (λ (e : Rectangle). test e.first) es)
filter_anchors test es valid = record {
  sorted = subst (λ ps. T (is_sorted position_cmp ps)) (sym (pairs-filter test es)) (is_sorted-where_key position_cmp test (pairs es) valid.sorted);
  sizes = recursion_from_All _ _ (All-filter (λ (e : Rectangle). test e.first) HasSize es (All-from_recursion _ _ valid.sizes));
}

pub get-retain : (m : SpanMap) (test : Position → Bool) (q : Position) → get (spans.retain m test) q ≡ cond (test q) (get m q) None
get-retain m test q =
    get-map_of (filter (λ (e : Rectangle). test e.first) (rectangles m)) q (filter_anchors test (rectangles m) (rectangles_anchors m))
    ∙ ap (find position_cmp q) (pairs-filter test (rectangles m))
    ∙ find-where_key position_cmp test q (λ x t. ap test (sym (positions_exact q x t))) (pairs (rectangles m))
    ∙ ap (λ v. cond (test q) v None) (sym (get-rectangles m q))

pub get-remove : (m : SpanMap) (p q : Position) → get (spans.remove m p) q ≡ cond (eq_by_cmp position_cmp q p) None (get m q)
get-remove m p q = get-retain m (λ x. not (eq_by_cmp position_cmp p x)) q ∙ turned (eq_by_cmp position_cmp p q) _ _ ∙ ap (λ b. cond b None (get m q)) ((eq_by_cmp_equiv positions_total).symm p q)

-- anchors with one more
sizes_put : (p : Position) (size : Size) (es : List Rectangle) → IsSpan size → AllByRecursion HasSize es → AllByRecursion HasSize (of_pairs (put position_cmp p size (pairs es)))
sizes_put p size [] ok all = (ok, tt)
sizes_put p size (e ∷ es) ok all = elim (position_cmp p e.first) as (λ o. AllByRecursion HasSize (of_pairs (by_order o ((p, size) ∷ pairs (e ∷ es)) ((e.first, size) ∷ pairs es) ((e.first, e.size) ∷ put position_cmp p size (pairs es))))) [
  | Less ↦ (ok, subst (AllByRecursion HasSize) (sym (of_pairs-pairs (e ∷ es))) all)
  | Equal ↦ (ok, subst (AllByRecursion HasSize) (sym (of_pairs-pairs es)) all.1)
  | Greater ↦ (all.0, sizes_put p size es ok all.1)
]

pub put_anchors : (p : Position) (size : Size) (es : List Rectangle) → IsSpan size → AreAnchors es → AreAnchors (of_pairs (put position_cmp p size (pairs es)))
put_anchors p size es ok valid = record {
  sorted = subst (λ ps. T (is_sorted position_cmp ps)) (sym (pairs-of_pairs (put position_cmp p size (pairs es)))) (is_sorted-put position_cmp positions_total p size (pairs es) valid.sorted);
  sizes = sizes_put p size es ok valid.sizes;
}

pub get-insert : (m : SpanMap) (p : Position) (size : Size) (q : Position) → IsSpan size → get (spans.insert m p size) q ≡ cond (eq_by_cmp position_cmp q p) (Some size) (get m q)
get-insert m p size q ok =
    get-map_of (of_pairs (put position_cmp p size (pairs (rectangles m)))) q (put_anchors p size (rectangles m) ok (rectangles_anchors m))
    ∙ ap (find position_cmp q) (pairs-of_pairs (put position_cmp p size (pairs (rectangles m))))
    ∙ find-put position_cmp positions_total q p size (pairs (rectangles m))
    ∙ ap (cond (eq_by_cmp position_cmp q p) (Some size)) (sym (get-rectangles m q))

-- what the map of rectangles of more than one cell has
pub get-from_rectangles : (es : List Rectangle) (q : Position) → AllByRecursion HasSize es → get (from_rectangles es) q ≡ find_at q es
get-from_rectangles [] q all = ap (λ (m : SpanMap). get m q) empty-is ∙ get-map_of [] q (record { sorted = tt; sizes = tt })
get-from_rectangles (e ∷ es) q all = get-insert (from_rectangles es) e.first e.size q all.0 ∙ ap (cond (eq_by_cmp position_cmp q e.first) (Some e.size)) (get-from_rectangles es q all.1)

pub below_at : (p : Position) (es : List Rectangle) (i : ℕ) (d : Rectangle) → Below p es → i < length es → position_cmp p (get_or es i d).first ≡ Less
below_at p [] i d h within = absurd (omega arith)
below_at p (e ∷ es) zero d h within = less _ (halves _ _ h).0
below_at p (e ∷ es) (suc i) d h within = below_at p es i d (halves _ _ h).1 (omega arith)

-- each anchor is before the next
next_above : (es : List Rectangle) (i : ℕ) (d : Rectangle) → AreSorted es → suc i < length es → position_cmp (get_or es i d).first (get_or es (suc i) d).first ≡ Less
next_above [] i d h within = absurd (omega arith)
next_above (e ∷ es) zero d h within = below_at e.first es 0 d (halves _ _ h).0 (omega arith)
next_above (e ∷ es) (suc i) d h within = next_above es i d (halves _ _ h).1 (omega arith)

-- a place at which none is anchored
missed : (es : List Rectangle) (p : Position) → ((j : ℕ) (d : Rectangle) → j < length es → is_eq (position_cmp p (get_or es j d).first) ≡ false) → find_at p es ≡ None
missed [] p h = refl
missed (e ∷ es) p h = rw (h 0 e (omega arith)) (missed es p (λ j d within. h (suc j) d (omega arith)))

-- none is anchored at a place that comes before all anchors
pub none_below : (p : Position) (es : List Rectangle) → Below p es → find_at p es ≡ None
none_below p [] below = refl
none_below p (e ∷ es) below = ap (λ r. cond (is_eq r) (Some e.size) (find_at p es)) (less _ (halves _ _ below).0) ∙ none_below p es (halves _ _ below).1

-- rectangles whose anchors all pass a test
kept : (test : Position → Bool) (es : List Rectangle) → ((j : ℕ) (d : Rectangle) → j < length es → test (get_or es j d).first ≡ true) → filter (λ (e : Rectangle). test e.first) es ≡ es
kept test [] h = refl
kept test (e ∷ es) h = rw (h 0 e (omega arith)) (ap (λ fs. e ∷ fs) (kept test es (λ j d within. h (suc j) d (omega arith))))

-- the rectangle that is anchored at a place
found : (es : List Rectangle) (p : Position) (i : ℕ) (d : Rectangle) → AreSorted es → i < length es → position_cmp (get_or es i d).first p ≡ Equal → find_at p es ≡ Some (get_or es i d).size
found [] p i d up within same = absurd (omega arith)
found (e ∷ es) p zero d up within same = ap (λ r. cond (is_eq r) (Some e.size) (find_at p es)) (positions_total.antisymm p e.first ∙ ap ordering_reverse same)
found (e ∷ es) p (suc i) d up within same =
    let below : position_cmp e.first p ≡ Less = subst (λ x. position_cmp e.first x ≡ Less) (positions_exact _ _ same) (below_at e.first es i d (halves _ _ up).0 (omega arith)) in
    ap (λ r. cond (is_eq r) (Some e.size) (find_at p es)) (above e.first p below) ∙ found es p i d (halves _ _ up).1 (omega arith) same

pub searchable : (es : List Rectangle) (p : Position) → AreSorted es → IsNonDecreasingBy (λ (e : Rectangle). ordering_index (position_cmp e.first p)) es
searchable es p up = searchable_from_sorted positions_total (λ (e : Rectangle). e.first) es p
    (λ i d low within. rw add-one (ap is_lt (above (get_or es i d).first (get_or es (suc i) d).first (next_above es i d up (omega arith)))))

-- a search that finds none passes no rectangle that is anchored at the place
apart : (es : List Rectangle) (p : Position) (i : ℕ) → AreSorted es → IsBinarySearchResult (λ (e : Rectangle). position_cmp e.first p) es (Err i) → (j : ℕ) (d : Rectangle) → j < length es → is_eq (position_cmp p (get_or es j d).first) ≡ false
apart es p i up at j d h = differ (cases_lt j i)
  where
    differ : (j < i) ⊎ (i ≤ j) → is_eq (position_cmp p (get_or es j d).first) ≡ false
    differ (inl below) = ap is_eq (above (get_or es j d).first p ((at (searchable es p up)).0 j d (omega arith) below))
    differ (inr past) = ap is_eq (positions_total.antisymm p (get_or es j d).first ∙ ap ordering_reverse ((at (searchable es p up)).1 j d past h))

-- what a binary search answers
pub searched : (es : List Rectangle) (p : Position) (r : Result ℕ ℕ) → AreSorted es → IsSearchInRange r (length es) → IsBinarySearchResult (λ (e : Rectangle). position_cmp e.first p) es r →
    MatchResult r (λ i. (d : Rectangle) → find_at p es ≡ Some (get_or es i d).size) (λ i. find_at p es ≡ None)
searched es p (Ok i) up within at = λ d. found es p i d up within (at d)
searched es p (Err i) up within at = missed es p (apart es p i up at)

-- what an insert leaves at the rectangle that is anchored at the place
pub put_found : (es : List Rectangle) (p : Position) (size : Size) (i : ℕ) (d : Rectangle) → AreSorted es → i < length es → position_cmp (get_or es i d).first p ≡ Equal → put position_cmp p size (pairs es) ≡ pairs (set es i (rectangle p size))
put_found [] p size i d up within same = absurd (omega arith)
put_found (e ∷ es) p size zero d up within same =
    ap (λ r. by_order r ((p, size) ∷ pairs (e ∷ es)) ((e.first, size) ∷ pairs es) ((e.first, e.size) ∷ put position_cmp p size (pairs es))) (positions_total.antisymm p e.first ∙ ap ordering_reverse same)
    ∙ ap (λ q. (q, size) ∷ pairs es) (positions_exact e.first p same)
put_found (e ∷ es) p size (suc i) d up within same =
    let below : position_cmp e.first p ≡ Less = subst (λ x. position_cmp e.first x ≡ Less) (positions_exact _ _ same) (below_at e.first es i d (halves _ _ up).0 (omega arith)) in
    ap (λ r. by_order r ((p, size) ∷ pairs (e ∷ es)) ((e.first, size) ∷ pairs es) ((e.first, e.size) ∷ put position_cmp p size (pairs es))) (above e.first p below)
    ∙ ap (λ ps. (e.first, e.size) ∷ ps) (put_found es p size i d (halves _ _ up).1 (omega arith) same)

-- and where there is none
pub put_missed : (es : List Rectangle) (p : Position) (size : Size) (i : ℕ) → i ≤ length es → AllWithin (λ (e : Rectangle). position_cmp e.first p ≡ Less) es 0 i → AllWithin (λ (e : Rectangle). position_cmp e.first p ≡ Greater) es i (length es) →
    put position_cmp p size (pairs es) ≡ pairs (insert es i (rectangle p size))
put_missed [] p size zero within below past = refl
put_missed [] p size (suc i) within below past = absurd (omega arith)
put_missed (e ∷ es) p size zero within below past = ap (λ r. by_order r ((p, size) ∷ pairs (e ∷ es)) ((e.first, size) ∷ pairs es) ((e.first, e.size) ∷ put position_cmp p size (pairs es))) (positions_total.antisymm p e.first ∙ ap ordering_reverse (past 0 e (omega arith) (omega arith)))
put_missed (e ∷ es) p size (suc i) within below past =
    ap (λ r. by_order r ((p, size) ∷ pairs (e ∷ es)) ((e.first, size) ∷ pairs es) ((e.first, e.size) ∷ put position_cmp p size (pairs es))) (above e.first p (below 0 e (omega arith) (omega arith)))
    ∙ ap (λ ps. (e.first, e.size) ∷ ps) (put_missed es p size i (omega arith) (λ j d low high. below (suc j) d (omega arith) (omega arith)) (λ j d low high. past (suc j) d (omega arith) (omega arith)))

pub without_found : (es : List Rectangle) (p : Position) (i : ℕ) (d : Rectangle) → AreSorted es → i < length es → position_cmp (get_or es i d).first p ≡ Equal → elsewhere p es ≡ remove es i
without_found [] p i d up within same = absurd (omega arith)
without_found (e ∷ es) p zero d up within same =
    ap (λ r. cond (not (is_eq r)) (e ∷ elsewhere p es) (elsewhere p es)) (positions_total.antisymm p e.first ∙ ap ordering_reverse same)
    ∙ kept (λ q. not (eq_by_cmp position_cmp p q)) es (λ j c h. ap (λ r. not (is_eq r)) (subst (λ x. position_cmp x (get_or es j c).first ≡ Less) (positions_exact e.first p same) (below_at e.first es j c (halves _ _ up).0 h)))
without_found (e ∷ es) p (suc i) d up within same =
    let below : position_cmp e.first p ≡ Less = subst (λ x. position_cmp e.first x ≡ Less) (positions_exact _ _ same) (below_at e.first es i d (halves _ _ up).0 (omega arith)) in
    ap (λ r. cond (not (is_eq r)) (e ∷ elsewhere p es) (elsewhere p es)) (above e.first p below)
    ∙ ap (λ fs. e ∷ fs) (without_found es p i d (halves _ _ up).1 (omega arith) same)

pub without_missed : (es : List Rectangle) (p : Position) (i : ℕ) → AreSorted es → i ≤ length es → IsBinarySearchResult (λ (e : Rectangle). position_cmp e.first p) es (Err i) → elsewhere p es ≡ es
without_missed es p i up within at = kept _ es (λ j d h. ap not (apart es p i up at j d h))

-- the maps of such rectangles
pub map_put : (es fs : List Rectangle) (p : Position) (size : Size) → AreAnchors es → pairs fs ≡ put position_cmp p size (pairs es) → map_of fs ≡ spans.insert (map_of es) p size
map_put es fs p size valid is = ap map_of (sym (of_pairs-pairs fs) ∙ ap of_pairs is ∙ ap (λ gs. of_pairs (put position_cmp p size (pairs gs))) (sym (rectangles-map_of es valid)))

pub map_without : (es : List Rectangle) (p : Position) → AreAnchors es → map_of (elsewhere p es) ≡ spans.remove (map_of es) p
map_without es p valid = ap (λ fs. map_of (elsewhere p fs)) (sym (rectangles-map_of es valid))
