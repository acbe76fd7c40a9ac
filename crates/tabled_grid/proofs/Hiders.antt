-- How many anchors hide a place, and how that follows the map.
use Rattle.tabled_grid.proofs.Common.{[], ◌%◌, ◌*◌, ◌+◌, ◌-◌, ◌<◌, ◌||◌, ◌∙◌, ◌∷◌, ◌≡◌, ◌≢◌, ◌≤◌, ◌⊎◌, AllByRecursion, AreSorted, Bool, In, IsBefore, IsNumbered, List, None, Option, Position, Rectangle, Size, Some, SpanMap, Stepped, Steps, ap, ap₂, area, arith, beyond, cases_Bool, cases_lt, common_steps, cond, count_by, elsewhere, eq_by_cmp, false, false_from_ne_true, false≢true, get, get_or, hider_counts, hiders_in, hiders_of, hides, inl, inr, is_hidden, is_span, length, list_any, lt-ltb, mul-le-mul_right, nat_lt, not, place, position_cmp, rectangle, rectangles, refl, replicate, rules, size_at, sized, subst, sym, take, tied_itself, true, unwrap_or, with_size, ℕ}
use Rattle.std.proofs.Math.Nat.{add-mod_right, mod-eq_of_lt}
use Rattle.std.proofs.lemmas.List.Sums.{count_by_more_no, count_by_more_yes, sum_by-cons, sum_by-take-le}
use Rattle.tabled_grid.proofs.Order.{before-less}
use Rattle.tabled_grid.specs.Spans as spans
use Rattle.tabled_grid.proofs.SortedEntries.{Below, filter_anchors, find_at, get-rectangles, get-retain, halves, less, none_below, positions_exact, positions_total, rectangles-map_of, rectangles_anchors, rectangles_sorted, same_map, span-from}
use Rattle.tabled_grid.proofs.SpanMaps.{equal, size_at-with_none, size_at-with_span, with_size-other}
use Rattle.tabled_grid.proofs.Stepping.{hides-true}
use Rattle.tabled_grid.proofs.Tables.{table-zero}

module _ {X : Type 0} (test : X → Bool) where
  count-yes : (x : X) (xs : List X) → test x ≡ true → count_by test (x ∷ xs) ≡ 1 + count_by test xs
  count-yes x xs t = sum_by-cons (λ y. cond (test y) 1 0) x xs ∙ ap (λ (b : Bool). cond b 1 0 + count_by test xs) t

  count-no : (x : X) (xs : List X) → test x ≡ false → count_by test (x ∷ xs) ≡ count_by test xs
  count-no x xs t = sum_by-cons (λ y. cond (test y) 1 0) x xs ∙ ap (λ (b : Bool). cond b 1 0 + count_by test xs) t ∙ (omega arith)

  -- some pass just where their number isn't 0
  pub any-counts : (xs : List X) → list_any test xs ≡ nat_lt 0 (count_by test xs)
  any-counts [] = refl
  any-counts (x ∷ xs) = next-counts (cases_Bool (test x)) (any-counts xs)
    where
      next-counts : (test x ≡ true) ⊎ (test x ≡ false) → list_any test xs ≡ nat_lt 0 (count_by test xs) → list_any test (x ∷ xs) ≡ nat_lt 0 (count_by test (x ∷ xs))
      next-counts (inl t) rest = ap (λ b. b || list_any test xs) t ∙ sym (lt-ltb 0 (count_by test (x ∷ xs)) (omega (arith, count-yes x xs t)))
      next-counts (inr t) rest = ap (λ b. b || list_any test xs) t ∙ rest ∙ ap (nat_lt 0) (sym (count-no x xs t))

pub hidden-counts : (m : SpanMap) (p : Position) → is_hidden m p ≡ nat_lt 0 (hiders_of m p)
hidden-counts m p = any-counts (hides p) (rectangles m)

-- the place of a cell in the list of a shape's cells
abbrev code : ℕ → Position → ℕ
code columns p = p.row * columns + p.col

code-less : (columns : ℕ) (p q : Position) → IsBefore p q → p.col < columns → code columns p < code columns q
code-less columns p q (inl above) h = search (rules, mul-le-mul_right)
code-less columns p q (inr beside) h = grind (arith, common_steps)

-- what hides a place comes before it
hider-before : (columns : ℕ) (p : Position) (e : Rectangle) → p.col < columns → hides p e ≡ true → (e.first.col < columns) × (code columns e.first < code columns p)
hider-before columns p e h t = grind (arith, common_steps, hides-true, code-less, cases_lt)

-- those that hide a place, if they begin from place k on, are at most the places from there up to it
few : (columns k : ℕ) (p : Position) (es : List Rectangle) → AreSorted es → p.col < columns → k ≤ code columns p → AllByRecursion (λ (e : Rectangle). hides p e ≡ true → k ≤ code columns e.first) es → hiders_in es p + k ≤ code columns p
few columns k p [] up h l all = omega (arith, l)
few columns k p (e ∷ es) up h l all = with-next (cases_Bool (hides p e)) (few columns k p es (halves _ _ up).1 h l all.1) (λ j below rest. few columns j p es (halves _ _ up).1 h below rest)
  where
    after : (fs : List Rectangle) → hides p e ≡ true → Below e.first fs → AllByRecursion (λ (f : Rectangle). hides p f ≡ true → code columns e.first + 1 ≤ code columns f.first) fs
    after [] t below = tt
    after (f ∷ fs) t below = ((λ u. omega (arith, code-less columns e.first f.first (before-less e.first f.first (less _ (halves _ _ below).0)) (hider-before columns p e h t).0)), after fs t (halves _ _ below).1)

    with-next : (hides p e ≡ true) ⊎ (hides p e ≡ false) → hiders_in es p + k ≤ code columns p → ((j : ℕ) → j ≤ code columns p → AllByRecursion (λ (f : Rectangle). hides p f ≡ true → j ≤ code columns f.first) es → hiders_in es p + j ≤ code columns p) → hiders_in (e ∷ es) p + k ≤ code columns p
    with-next (inl t) same go =
        let more = go (code columns e.first + 1) (omega (arith, (hider-before columns p e h t).1)) (after es t (halves _ _ up).0) in
        omega (arith, more, all.0 t, count-yes (hides p) e es t)
    with-next (inr t) same go = omega (arith, same, count-no (hides p) e es t)

from_start : (columns : ℕ) (p : Position) (es : List Rectangle) → AllByRecursion (λ (e : Rectangle). hides p e ≡ true → 0 ≤ code columns e.first) es
from_start columns p [] = tt
from_start columns p (e ∷ es) = ((λ t. omega arith), from_start columns p es)

-- so their number is below a limit where that of the shape's cells is
pub hiders-fit : (limit rows columns : ℕ) (p : Position) (es : List Rectangle) → AreSorted es → p.row < rows → p.col < columns → rows * columns < limit → hiders_in es p < limit
hiders-fit limit rows columns p es up row col fits =
    let before : hiders_in es p + 0 ≤ code columns p = few columns 0 p es up col (omega arith) (from_start columns p es) in
    let inside : (p.row + 1) * columns ≤ rows * columns = mul-le-mul_right columns (omega arith) in
    omega (arith, before, inside)

-- the rectangles of a map but that at a place
rest : SpanMap → Position → List Rectangle
rest m a = elsewhere a (rectangles m)

rest-same : (m n : SpanMap) (a : Position) → ((q : Position) → q ≢ a → get n q ≡ get m q) → rest n a ≡ rest m a
unfolding rest
rest-same m n a same = sym (left n) ∙ ap rectangles (same_map (spans.remove n a) (spans.remove m a) each) ∙ left m
  where
    left : (k : SpanMap) → rectangles (spans.remove k a) ≡ rest k a
    left k = rectangles-map_of (rest k a) (filter_anchors (λ q. not (eq_by_cmp position_cmp a q)) (rectangles k) (rectangles_anchors k))

    found : (k : SpanMap) (q : Position) → get (spans.remove k a) q ≡ cond (not (eq_by_cmp position_cmp a q)) (get k q) None
    found k q = get-retain k (λ x. not (eq_by_cmp position_cmp a x)) q

    each : (q : Position) → get (spans.remove n a) q ≡ get (spans.remove m a) q
    each q = grind (arith, common_steps, found, cases_Bool, tied_itself, positions_total)

-- a place of one cell is none that an entry may have for nothing
counts-apart : (test : Rectangle → Bool) (a : Position) (es : List Rectangle) → test (rectangle a (sized 1 1)) ≡ false → AreSorted es → count_by test es ≡ count_by test (elsewhere a es) + cond (test (rectangle a (unwrap_or (find_at a es) (sized 1 1)))) 1 0
counts-apart test a [] one up = ap (λ (b : Bool). 0 + cond b 1 0) (sym one)
counts-apart test a (e ∷ es) one up = apart-next (cases_Bool (eq_by_cmp position_cmp a e.first)) (cases_Bool (test e)) (counts-apart test a es one (halves _ _ up).1)
  where
    others : List Rectangle
    others = elsewhere a es

    at : Option Size → ℕ
    at v = cond (test (rectangle a (unwrap_or v (sized 1 1)))) 1 0

    kept : (b : Bool) → eq_by_cmp position_cmp a e.first ≡ b → elsewhere a (e ∷ es) ≡ cond (not b) (e ∷ others) others
    kept b t = ap (λ c. cond (not c) (e ∷ others) others) t

    looked : (b : Bool) → eq_by_cmp position_cmp a e.first ≡ b → find_at a (e ∷ es) ≡ cond b (Some e.size) (find_at a es)
    looked b t = ap (λ c. cond c (Some e.size) (find_at a es)) t

    here : eq_by_cmp position_cmp a e.first ≡ true → at (find_at a es) ≡ 0
    here t = ap at (none_below a es (subst (λ x. Below x es) (sym (positions_exact a e.first (equal _ t))) (halves _ _ up).0)) ∙ ap (λ (b : Bool). cond b 1 0) one

    this : eq_by_cmp position_cmp a e.first ≡ true → at (Some e.size) ≡ cond (test e) 1 0
    this t = ap (λ x. cond (test (rectangle x e.size)) 1 0) (positions_exact a e.first (equal _ t))

    apart-next : (eq_by_cmp position_cmp a e.first ≡ true) ⊎ (eq_by_cmp position_cmp a e.first ≡ false) → (test e ≡ true) ⊎ (test e ≡ false) → count_by test es ≡ count_by test others + at (find_at a es) → count_by test (e ∷ es) ≡ count_by test (elsewhere a (e ∷ es)) + at (find_at a (e ∷ es))
    apart-next (inl t) c go =
        let value : at (find_at a (e ∷ es)) ≡ cond (test e) 1 0 = ap at (looked true t) ∙ this t in
        rw (kept true t, value) (omega (arith, go, here t, sum_by-cons (λ y. cond (test y) 1 0) e es))
    apart-next (inr f) c go =
        rw (kept false f, looked false f) (omega (arith, go, sum_by-cons (λ y. cond (test y) 1 0) e es, sum_by-cons (λ y. cond (test y) 1 0) e others))

one_cell_hides_none : (a p : Position) → hides p (rectangle a (sized 1 1)) ≡ false
one_cell_hides_none a p = false_from_ne_true _ (λ t. let at = hides-true (rectangle a (sized 1 1)) p t in at.other (ap₂ place (omega (arith, at.holds.top, at.holds.bottom)) (omega (arith, at.holds.left, at.holds.right))))

-- nor does a size that is not that of more than one cell
no_span_hides_none : (a p : Position) (size : Size) → is_span size ≡ false → hides p (rectangle a size) ≡ false
no_span_hides_none a p size f = false_from_ne_true _ (λ t.
    let at = hides-true (rectangle a size) p t in
    false≢true (sym f ∙ span-from size (record { height = omega (arith, at.holds.top, at.holds.bottom); width = omega (arith, at.holds.left, at.holds.right); merges = higher-or-wider at.holds at.other (cases_lt 1 size.height) (cases_lt 1 size.width) })))
  where
    higher-or-wider : In (rectangle a size) p → a ≢ p → (1 < size.height) ⊎ (size.height ≤ 1) → (1 < size.width) ⊎ (size.width ≤ 1) → (1 < size.height) ⊎ (1 < size.width)
    higher-or-wider at other (inl h) w = inl h
    higher-or-wider at other (inr h) (inl w) = inr w
    higher-or-wider at other (inr h) (inr w) = absurd (other (ap₂ place (omega (arith, at.top, at.bottom)) (omega (arith, at.left, at.right))))

-- an anchor hides a place, or not, beside all others
hiders-apart : (m : SpanMap) (a p : Position) → hiders_of m p ≡ hiders_in (rest m a) p + cond (hides p (rectangle a (size_at m a))) 1 0
unfolding rest
hiders-apart m a p = counts-apart (hides p) a (rectangles m) (one_cell_hides_none a p) (rectangles_sorted m) ∙ ap (λ v. hiders_in (rest m a) p + cond (hides p (rectangle a (unwrap_or v (sized 1 1)))) 1 0) (sym (get-rectangles m a))

hiders-with : (m : SpanMap) (a p : Position) (new : Size) → hiders_of (with_size m a new) p ≡ hiders_in (rest m a) p + cond (hides p (rectangle a new)) 1 0
hiders-with m a p new = hiders-apart (with_size m a new) a p ∙ ap (λ es. hiders_in es p + cond (hides p (rectangle a (size_at (with_size m a new) a))) 1 0) (rest-same m (with_size m a new) a (λ q n. with_size-other m a new q n)) ∙ ap (λ b. hiders_in (rest m a) p + cond b 1 0) (hides-sized (cases_Bool (is_span new)))
  where
    hides-sized : (is_span new ≡ true) ⊎ (is_span new ≡ false) → hides p (rectangle a (size_at (with_size m a new) a)) ≡ hides p (rectangle a new)
    hides-sized (inl t) = ap (λ (size : Size). hides p (rectangle a size)) (size_at-with_span m a new t)
    hides-sized (inr f) = ap (λ (size : Size). hides p (rectangle a size)) (size_at-with_none m a new f) ∙ one_cell_hides_none a p ∙ sym (no_span_hides_none a p new f)

abbrev number : Bool → ℕ
number b = cond b 1 0

one-if : (b : Bool) → b ≡ true → number b ≡ 1
one-if b t = ap number t

none-if : (b : Bool) → b ≡ false → number b ≡ 0
none-if b t = ap number t

-- one less, and one more, counted round a limit that isn't reached
one-less : (n k limit : ℕ) → n ≡ k + 1 → n < limit → (n + (limit - 1)) % limit ≡ k
one-less n k limit is below =
    let round : n + (limit - 1) ≡ k + limit = omega (arith, is) in
    ap (λ i. i % limit) round ∙ add-mod_right k limit ∙ mod-eq_of_lt (omega (arith, is))

one_more-is : (n k limit : ℕ) → n ≡ k + 1 → n < limit → (k + 1) % limit ≡ n
one_more-is n k limit is below = ap (λ i. i % limit) (sym is) ∙ mod-eq_of_lt below

module _ (m : SpanMap) (a : Position) (old new : Size) (cells : Rectangle) (limit : ℕ) (has : size_at m a ≡ old) (fits : IsNumbered limit cells) where
  abbrev at : ℕ → ℕ → Position
  at i j = beyond cells.first (place i j)

  few_of : (n : SpanMap) (i j : ℕ) → i < cells.size.height → j < cells.size.width → hiders_of n (at i j) < limit
  few_of n i j h k = hiders-fit limit (cells.first.row + cells.size.height) (cells.first.col + cells.size.width) (at i j) (rectangles n) (rectangles_sorted n) (omega arith) (omega arith) fits.numbers

  taken : Stepped (λ p. hides (beyond cells.first p) (rectangle a old)) (limit - 1) limit cells.size (λ p. hiders_of m (beyond cells.first p)) (λ p. hiders_in (rest m a) (beyond cells.first p))
  taken = record {
    here = λ i j h k t. sym (one-less _ _ limit (was i j ∙ ap (λ n. hiders_in (rest m a) (at i j) + n) (one-if (hides (at i j) (rectangle a old)) t)) (few_of m i j h k));
    others = λ i j h k t. omega (arith, was i j, none-if (hides (at i j) (rectangle a old)) t);
  }
    where
      was : (i j : ℕ) → hiders_of m (at i j) ≡ hiders_in (rest m a) (at i j) + cond (hides (at i j) (rectangle a old)) 1 0
      was i j = hiders-apart m a (at i j) ∙ ap (λ size. hiders_in (rest m a) (at i j) + cond (hides (at i j) (rectangle a size)) 1 0) has

  given : Stepped (λ p. hides (beyond cells.first p) (rectangle a new)) 1 limit cells.size (λ p. hiders_in (rest m a) (beyond cells.first p)) (λ p. hiders_of (with_size m a new) (beyond cells.first p))
  given = record {
    here = λ i j h k t. sym (one_more-is _ _ limit (is i j ∙ ap (λ n. hiders_in (rest m a) (at i j) + n) (one-if (hides (at i j) (rectangle a new)) t)) (few_of (with_size m a new) i j h k));
    others = λ i j h k t. omega (arith, is i j, none-if (hides (at i j) (rectangle a new)) t);
  }
    where
      is : (i j : ℕ) → hiders_of (with_size m a new) (at i j) ≡ hiders_in (rest m a) (at i j) + cond (hides (at i j) (rectangle a new)) 1 0
      is i j = hiders-with m a (at i j) new

  -- a rectangle is taken away, and another given
  pub hiders-replaced : (xs ys zs : List ℕ) → Steps xs ys (λ p. hides (beyond cells.first p) (rectangle a old)) (limit - 1) limit cells.size → Steps ys zs (λ p. hides (beyond cells.first p) (rectangle a new)) 1 limit cells.size → xs ≡ hider_counts (rectangles m) cells → zs ≡ hider_counts (rectangles (with_size m a new)) cells
  hiders-replaced xs ys zs back on is = on.is (λ p. hiders_in (rest m a) (beyond cells.first p)) (λ p. hiders_of (with_size m a new) (beyond cells.first p)) given (back.is (λ p. hiders_of m (beyond cells.first p)) (λ p. hiders_in (rest m a) (beyond cells.first p)) taken is)

-- one anchor of a sorted list more
pub hiders-more : (es : List Rectangle) (n : ℕ) (d : Rectangle) (xs ys : List ℕ) (cells : Rectangle) (step limit : ℕ) → AreSorted es → n < length es → IsNumbered limit cells → step ≡ 1 → Steps xs ys (λ p. hides (beyond cells.first p) (get_or es n d)) step limit cells.size → xs ≡ hider_counts (take n es) cells → ys ≡ hider_counts (take (n + 1) es) cells
hiders-more es n d xs ys cells step limit up here fits one steps is = steps.is (λ p. hiders_in (take n es) (beyond cells.first p)) (λ p. hiders_in (take (n + 1) es) (beyond cells.first p)) (record {
  here = λ i j h k t. sym (ap (λ s. (hiders_in (take n es) (beyond cells.first (place i j)) + s) % limit) one ∙ one_more-is _ _ limit
      (omega (arith, count_by_more_yes (hides (beyond cells.first (place i j))) es n d here t))
      (omega (arith, sum_by-take-le (λ e. cond (hides (beyond cells.first (place i j)) e) 1 0) es (n + 1), hiders-fit limit (cells.first.row + cells.size.height) (cells.first.col + cells.size.width) (beyond cells.first (place i j)) es up (omega arith) (omega arith) fits.numbers)));
  others = λ i j h k t. count_by_more_no (hides (beyond cells.first (place i j))) es n d here t;
}) is

-- no anchor hides a place yet
pub hiders-none : (cells : Rectangle) (xs : List ℕ) → xs ≡ replicate (area cells.size) 0 → xs ≡ hider_counts [] cells
hiders-none cells xs is = is ∙ sym (table-zero cells.size)
