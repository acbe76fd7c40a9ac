-- Sorted anchors and sorted sizes, merged from the front.
use Rattle.tabled_grid.proofs.Common.{[], ◌++◌, ◌+◌, ◌<◌, ◌∙◌, ◌∷◌, ◌≡◌, ◌≤◌, AllByRecursion, AreAnchors, AreSorted, Bool, Equal, Greater, HasArea, IsSpan, Less, List, Ordering, Position, Rectangle, T, anchor_of, and_from, and_parts, ap, append_assoc, arith, cases_Bool, cases_lt, common_steps, cond, drop, drop-cons, drop_more, drop_of_length-le, elsewhere, eq_by_cmp, false, false_from_ne_true, filter, get_or, inl, inr, is_cell, is_eq, is_lt, is_span, length, map_of, not, of_pairs, ordering_reverse, pairs, position_cmp, put, rectangle, refl, subst, sym, true, with_size, with_size_in, with_sizes, with_sizes_in, without_first_at, ℕ}
use borrow.Author.Tests.{eqb-true}
use Rattle.tabled_grid.proofs.Spans.{Makes, with_anchor, without_anchor}
use Rattle.tabled_grid.proofs.SortedEntries.{Below, above, both, filter_anchors, halves, is_less, less, of_pairs-pairs, pairs-of_pairs, positions_exact, positions_total, put_anchors, span-from, span-true}

is_one : Rectangle → Bool
is_one c = is_cell c.size

differs : Position → Position → Bool
differs p q = not (eq_by_cmp position_cmp p q)

-- the size in front of anchors that come after it
pub kept : Rectangle → List Rectangle → List Rectangle
kept c es = cond (is_one c) es (c ∷ es)

-- what is below a place is below all that the place is below
pub below_more : (p q : Position) (es : List Rectangle) → position_cmp p q ≡ Less → Below q es → Below p es
below_more p q [] h b = tt
below_more p q (e ∷ es) h b = let parts = halves _ _ b in both _ _ (is_less _ (positions_total.trans p q e.first h (less _ parts.0))) (below_more p q es h parts.1)

-- a size at a place after the first anchor leaves that anchor first
after_first : (e c : Rectangle) (es : List Rectangle) → position_cmp e.first c.first ≡ Less → with_size_in (e ∷ es) c ≡ e ∷ with_size_in es c
unfolding is_one differs
after_first e c es h = elim (cases_Bool (is_one c)) [
  | inl t ↦ rw (t, above e.first c.first h) refl
  | inr f ↦ rw (f, above e.first c.first h) refl
]

-- sizes after the first anchor leave it first
pub first_stays : (e : Rectangle) (es sizes : List Rectangle) → Below e.first sizes → with_sizes_in (e ∷ es) sizes ≡ e ∷ with_sizes_in es sizes
first_stays e es [] b = refl
first_stays e es (c ∷ sizes) b =
    let parts = halves _ _ b in
    ap (λ xs. with_sizes_in xs sizes) (after_first e c es (less _ parts.0)) ∙ first_stays e (with_size_in es c) sizes parts.1

-- no anchor after a place is at it
none_at : (p : Position) (es : List Rectangle) → Below p es → filter (λ (e : Rectangle). differs p e.first) es ≡ es
unfolding differs
none_at p [] b = refl
none_at p (e ∷ es) b =
    let parts = halves _ _ b in
    let first : position_cmp p e.first ≡ Less = less _ parts.0 in
    rw first (ap (λ xs. e ∷ xs) (none_at p es parts.1))

-- a size before all anchors
pub before : (c : Rectangle) (es : List Rectangle) → Below c.first es → with_size_in es c ≡ kept c es
unfolding kept is_one differs
before c es b = elim (cases_Bool (is_one c)) [
  | inl t ↦ rw t (none_at c.first es b)
  | inr f ↦ rw f (ap of_pairs (put_first es b) ∙ of_pairs-pairs (c ∷ es))
]
  where
    put_first : (xs : List Rectangle) → Below c.first xs → put position_cmp c.first c.size (pairs xs) ≡ pairs (c ∷ xs)
    put_first [] below = refl
    put_first (x ∷ xs) below = let first : position_cmp c.first x.first ≡ Less = less _ (halves _ _ below).0 in rw first refl

-- a size at the place of the first anchor
pub here : (c e : Rectangle) (es : List Rectangle) → position_cmp e.first c.first ≡ Equal → Below e.first es → with_size_in (e ∷ es) c ≡ kept c es
unfolding kept is_one differs
here c e es same b = elim (cases_Bool (is_one c)) [
  | inl t ↦ rw (t, tied) (none_at c.first es (subst (λ p. Below p es) at b))
  | inr f ↦ rw (f, tied) (ap (λ p. rectangle p c.size ∷ of_pairs (pairs es)) at ∙ of_pairs-pairs (c ∷ es))
]
  where
    at : e.first ≡ c.first
    at = positions_exact e.first c.first same

    tied : position_cmp c.first e.first ≡ Equal
    tied = positions_total.antisymm c.first e.first ∙ ap ordering_reverse same

-- what is kept of a size stands in front of what follows
behind : (c : Rectangle) (merged rest : List Rectangle) → (merged ++ anchor_of c) ++ rest ≡ merged ++ kept c rest
unfolding kept is_one
behind c merged rest = elim (cases_Bool (is_one c)) [
  | inl t ↦ rw t (append_assoc merged [] rest)
  | inr f ↦ rw f (append_assoc merged (c ∷ []) rest)
]

-- sizes after one that was set leave it first
pub kept_stays : (c : Rectangle) (es sizes : List Rectangle) → Below c.first sizes → with_sizes_in (kept c es) sizes ≡ kept c (with_sizes_in es sizes)
unfolding kept
kept_stays c es sizes b = elim (cases_Bool (is_one c)) [
  | inl t ↦ rw t refl
  | inr f ↦ rw f (first_stays c es sizes b)
]

-- no anchor is before a place, where the first is not
pub starts_from : Position → List Rectangle → Bool
starts_from p [] = true
starts_from p (e ∷ es) = not (is_lt (position_cmp e.first p))

-- a size where no anchor is before it
at_front : (c : Rectangle) (es : List Rectangle) → AreSorted es → T (starts_from c.first es) → with_size_in es c ≡ kept c (without_first_at c.first es)
unfolding starts_from
at_front c [] up from = before c [] tt
at_front c (e ∷ es) up from = compared (position_cmp e.first c.first) refl from
  where
    compared : (o : Ordering) → position_cmp e.first c.first ≡ o → T (not (is_lt o)) → with_size_in (e ∷ es) c ≡ kept c (cond (is_eq o) es (e ∷ es))
    compared Less is below = absurd below
    compared Equal is below = here c e es is (halves _ _ up).0
    compared Greater is below =
        let first : position_cmp c.first e.first ≡ Less = positions_total.antisymm c.first e.first ∙ ap ordering_reverse is in
        before c (e ∷ es) (both _ _ (is_less _ first) (below_more c.first e.first es first (halves _ _ up).0))

rest_sorted : (c : Rectangle) (es : List Rectangle) → AreSorted es → AreSorted (without_first_at c.first es)
rest_sorted c [] up = tt
rest_sorted c (e ∷ es) up = elim (is_eq (position_cmp e.first c.first)) as (λ b. AreSorted (cond b es (e ∷ es))) [ true ↦ (halves _ _ up).1 | false ↦ up ]

-- from the next anchor on none is before a place, where it is not, or there is none left
pub starts_at : (anchors : List Rectangle) (next : ℕ) (d : Rectangle) (p : Position) → next < length anchors → is_lt (position_cmp (get_or anchors next d).first p) ≡ false → T (starts_from p (drop next anchors))
unfolding starts_from
starts_at anchors next d p within late = rw (drop-cons anchors next d within) (subst (λ b. T (not b)) (sym late) tt)

pub starts_past : (anchors : List Rectangle) (next : ℕ) (p : Position) → length anchors ≤ next → T (starts_from p (drop next anchors))
unfolding starts_from
starts_past anchors next p past = rw (drop_of_length-le anchors past) tt

-- the sizes left, set on the anchors left, stand after what is merged
pub record IsMerged (merged anchors sizes all_anchors all_sizes : List Rectangle) : Type 0 where
  pub sorted : AreSorted anchors
  pub sizes_sorted : AreSorted sizes
  pub is : merged ++ with_sizes_in anchors sizes ≡ with_sizes_in all_anchors all_sizes

pub begun : (anchors sizes : List Rectangle) → AreSorted anchors → AreSorted sizes → IsMerged [] anchors sizes anchors sizes
begun anchors sizes up rising = record { sorted = up; sizes_sorted = rising; is = refl }

module _ (merged all_anchors all_sizes : List Rectangle) where
  -- an anchor before the next size
  pub anchor_passed : (e c : Rectangle) (es cs : List Rectangle) → position_cmp e.first c.first ≡ Less → IsMerged merged (e ∷ es) (c ∷ cs) all_anchors all_sizes → IsMerged (merged ++ (e ∷ [])) es (c ∷ cs) all_anchors all_sizes
  anchor_passed e c es cs first m = grind (arith, common_steps, both, is_less, below_more, halves, append_assoc, first_stays)

  -- a size, where no anchor left is before it
  pub size_passed : (c : Rectangle) (es cs : List Rectangle) → T (starts_from c.first es) → IsMerged merged es (c ∷ cs) all_anchors all_sizes → IsMerged (merged ++ anchor_of c) (without_first_at c.first es) cs all_anchors all_sizes
  unfolding kept starts_from
  size_passed c es cs from m =
      let step : with_size_in es c ≡ kept c (without_first_at c.first es) = at_front c es m.sorted from in
      record {
        sorted = rest_sorted c es m.sorted;
        sizes_sorted = (halves _ _ m.sizes_sorted).1;
        is = behind c merged (with_sizes_in (without_first_at c.first es) cs) ∙ ap (λ xs. merged ++ xs) (sym (kept_stays c (without_first_at c.first es) cs (halves _ _ m.sizes_sorted).0) ∙ ap (λ xs. with_sizes_in xs cs) (sym step)) ∙ m.is;
      }

-- a size that is not that of one cell
span_size : (c : Rectangle) → HasArea c → is_one c ≡ false → IsSpan c.size
unfolding is_one
span_size c size other = record { height = size.height; width = size.width; merges = elim (cases_lt 1 c.size.height) [ inl h ↦ inl h | inr h ↦ elim (cases_lt 1 c.size.width) [ inl w ↦ inr w | inr w ↦ grind (arith, common_steps, and_from) ] ] }

-- and one that is
one_span : (c : Rectangle) → is_one c ≡ true → is_span c.size ≡ false
unfolding is_one
one_span c t = false_from_ne_true _ (λ u.
    let parts = and_parts _ _ t in
    let tall : c.size.height ≡ 1 = eqb-true _ _ parts.0 in
    let wide : c.size.width ≡ 1 = eqb-true _ _ parts.1 in
    elim (span-true c.size u).merges [ inl h ↦ omega (arith, tall) | inr h ↦ omega (arith, wide) ])

-- a list of anchors with a size makes the map with that size
with_size_makes : (es : List Rectangle) (c : Rectangle) → AreAnchors es → HasArea c → Makes (with_size_in es c) (with_size (map_of es) c.first c.size)
unfolding is_one differs
with_size_makes es c valid size = elim (cases_Bool (is_one c)) [
  | inl t ↦ rw (one_span c t, t) (without_anchor es valid c.first (elsewhere c.first es) (filter_anchors (differs c.first) es valid).sizes refl)
  | inr f ↦ rw (span-from c.size (span_size c size f), f) (with_anchor es valid c.first (of_pairs (put position_cmp c.first c.size (pairs es))) c.size (put_anchors c.first c.size es (span_size c size f) valid).sizes (pairs-of_pairs _))
]

pub with_sizes_make : (es sizes : List Rectangle) → AreAnchors es → AllByRecursion HasArea sizes → Makes (with_sizes_in es sizes) (with_sizes (map_of es) sizes)
with_sizes_make es [] valid all = record { valid = valid; is = refl }
with_sizes_make es (c ∷ sizes) valid all =
    let one = with_size_makes es c valid all.0 in
    let rest = with_sizes_make (with_size_in es c) sizes one.valid all.1 in
    record { valid = rest.valid; is = rest.is ∙ ap (λ m. with_sizes m sizes) one.is }

-- the same at two places of the lists
module _ (merged anchors sizes : List Rectangle) (next k : ℕ) (d : Rectangle) where
  pub anchor_step : next < length anchors → k < length sizes → is_lt (position_cmp (get_or anchors next d).first (get_or sizes k d).first) ≡ true → IsMerged merged (drop next anchors) (drop k sizes) anchors sizes → IsMerged (merged ++ (get_or anchors next d ∷ [])) (drop (next + 1) anchors) (drop k sizes) anchors sizes
  anchor_step within here first m =
      rw (drop_more sizes k d here)
      (anchor_passed merged anchors sizes (get_or anchors next d) (get_or sizes k d) (drop (next + 1) anchors) (drop (k + 1) sizes) (less _ (subst T (sym first) tt))
      (rw (← drop_more anchors next d within, ← drop_more sizes k d here) m))

  pub size_step : (rest : List Rectangle) → k < length sizes → T (starts_from (get_or sizes k d).first (drop next anchors)) → rest ≡ without_first_at (get_or sizes k d).first (drop next anchors) → IsMerged merged (drop next anchors) (drop k sizes) anchors sizes → IsMerged (merged ++ anchor_of (get_or sizes k d)) rest (drop (k + 1) sizes) anchors sizes
  size_step rest here from is m = rw is (size_passed merged anchors sizes (get_or sizes k d) (drop next anchors) (drop (k + 1) sizes) from (rw (← drop_more sizes k d here) m))
