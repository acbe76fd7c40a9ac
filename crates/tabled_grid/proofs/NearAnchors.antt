-- Anchors left of a rectangle, of which the nearest in a row stands for the others.
use Rattle.tabled_grid.proofs.Common.{[], ◌+◌, ◌-◌, ◌<◌, ◌∙◌, ◌∷◌, ◌≡◌, ◌≤◌, AllByRecursion, AreAnchors, AreApart, AreSorted, Bool, IsBefore, IsSpan, Less, List, Position, Rectangle, all-drop, all_fit, and_from, and_left, and_parts, and_right, ap, arith, cases_lt, common_steps, drop, drop-drop, drop_more, false, false_from_ne_true, fits_among, get_or, inl, inr, length, lies_inside, list_all, meets, not, not_from_false, position_cmp, rectangle, refl, subst, suc, sym, take, true, zero, ℕ, ◌&&◌}
use Rattle.tabled_grid.proofs.PassedAnchors.{all_after, apart_sorted, sorted_drop}
use Rattle.tabled_grid.proofs.Rectangles.{meets-from, meets-true}
use Rattle.tabled_grid.proofs.Order.{before-less}
use Rattle.tabled_grid.proofs.SortedEntries.{Below, halves, less}

never : {P : Type 0} (b : Bool) → b ≡ true → b ≡ false → P
never b h k = cc

false_from_not : (b : Bool) → not b ≡ true → b ≡ false
false_from_not true h = sym h
false_from_not false h = cc

-- of rectangles that fit the last do
fit_drop : (rows columns n : ℕ) (es : List Rectangle) → all_fit rows columns es ≡ true → all_fit rows columns (drop n es) ≡ true
fit_drop rows columns zero es fit = fit
fit_drop rows columns (suc n) [] fit = refl
fit_drop rows columns (suc n) (e ∷ es) fit = fit_drop rows columns n es (and_parts (fits_among rows columns es e) _ fit).1

unfit_drop : (rows columns n : ℕ) (es : List Rectangle) → all_fit rows columns (drop n es) ≡ false → all_fit rows columns es ≡ false
unfit_drop rows columns n es unfit = false_from_ne_true _ (λ fit. never _ (fit_drop rows columns n es fit) unfit)

pub anchors_drop : (n : ℕ) (es : List Rectangle) → AreAnchors es → AreAnchors (drop n es)
anchors_drop n es valid = record { sorted = sorted_drop n es valid.sorted; sizes = all-drop (λ (e : Rectangle). IsSpan e.size) n es valid.sizes }

-- of two that are apart in one row, the first ends before the second
ends_before : (e f : Rectangle) → 1 ≤ e.size.height → 1 ≤ f.size.height → e.first.row ≡ f.first.row → e.first.col < f.first.col → meets e f ≡ false → e.first.col + e.size.width ≤ f.first.col
ends_before e f tall high same before apart = grind (arith, common_steps, cases_lt, never, meets-from)

-- where anchors stand from a place to a rectangle in one row, all but the last of them are apart from it
pub near_passed : (from : Rectangle) (pos : Position) (es : List Rectangle) (i n : ℕ) → n ≤ i - 1 → AreSorted es → AllByRecursion (λ (e : Rectangle). IsSpan e.size) es → AreApart es → Below pos es →
    ((j : ℕ) (d : Rectangle) → j < i → position_cmp (get_or es j d).first (record { row = pos.row; col = from.first.col }) ≡ Less) → i ≤ length es → list_all (λ (e : Rectangle). not (meets from e)) (take n es) ≡ true
near_passed from pos es i zero some up sizes apart below until within = refl
near_passed from pos [] i (suc n) some up sizes apart below until within = absurd (omega arith)
near_passed from pos (e ∷ []) i (suc n) some up sizes apart below until within = absurd (omega arith)
near_passed from pos (e ∷ f ∷ es) i (suc n) some up sizes apart below until within =
    let first : (e.first.row ≡ pos.row) × (e.first.col < from.first.col) = in_row e.first (before-less pos e.first (less _ (halves _ _ below).0)) (before-less e.first _ (until 0 e (omega arith))) in
    let second : (f.first.row ≡ pos.row) × (f.first.col < from.first.col) = in_row f.first (before-less pos f.first (less _ (halves _ _ (halves _ _ below).1).0)) (before-less f.first _ (until 1 e (omega arith))) in
    let between = in_order (before-less e.first f.first (less _ (halves _ _ (halves _ _ up).0).0)) (first.0 ∙ sym second.0) in
    let ends = ends_before e f sizes.0.height sizes.1.0.height (first.0 ∙ sym second.0) between (false_from_not _ (and_parts _ _ (and_parts _ _ (and_parts _ _ apart.2).0).1).0) in
    and_from _ _ (not_from_false _ (false_from_ne_true _ (λ t. let m = meets-true from e t in absurd (omega (arith, m.left, ends, second.1)))))
    (near_passed from pos (f ∷ es) (i - 1) n (omega arith) (halves _ _ up).1 sizes.1 (apart.0, apart.1, (and_parts _ _ apart.2).1) (halves _ _ below).1 (λ j d h. until (suc j) d (omega arith)) (omega arith))
  where
    in_row : (p : Position) → IsBefore pos p → IsBefore p (record { row = pos.row; col = from.first.col }) → (p.row ≡ pos.row) × (p.col < from.first.col)
    in_row p (inl a) (inl u) = absurd (omega (arith, a, u))
    in_row p (inl a) (inr u) = absurd (omega (arith, a, u.0))
    in_row p (inr a) (inl u) = absurd (omega (arith, a.0, u))
    in_row p (inr a) (inr u) = (u.0, u.1)

    in_order : IsBefore e.first f.first → e.first.row ≡ f.first.row → e.first.col < f.first.col
    in_order (inl l) same = absurd (omega (arith, l, same))
    in_order (inr l) same = l.1

-- the anchors after one, as a slice of those from an earlier index on
after_in : (es : List Rectangle) (first k : ℕ) → first ≤ k → drop ((k + 1) - first) (drop first es) ≡ take (length es - (k + 1)) (drop (k + 1) es)
after_in es first k low = grind (arith, common_steps, drop-drop, all_after)

pub apart_after : (es : List Rectangle) (first k : ℕ) → first ≤ k → AreApart (drop first es) → AreApart (take (length es - (k + 1)) (drop (k + 1) es))
apart_after es first k low (rows, columns, fit) = (rows, columns, subst (λ fs. all_fit rows columns fs ≡ true) (after_in es first k low) (fit_drop rows columns ((k + 1) - first) (drop first es) fit))

pub anchors_after : (a : Rectangle) (es : List Rectangle) (first k : ℕ) (d : Rectangle) → first ≤ k → k < length es → AreAnchors (a ∷ drop first es) → AreAnchors (rectangle (get_or es k d).first a.size ∷ take (length es - (k + 1)) (drop (k + 1) es))
anchors_after a es first k d low here valid = record {
  sorted = apart_sorted a es first k d low here valid.sorted;
  sizes = (valid.sizes.0, subst (λ fs. AllByRecursion (λ (e : Rectangle). IsSpan e.size) fs) (after_in es first k low) (all-drop (λ (e : Rectangle). IsSpan e.size) ((k + 1) - first) (drop first es) valid.sizes.1));
}

-- the anchors from an index on, the first of which is this one
pub anchors_from : (es : List Rectangle) (i : ℕ) (d : Rectangle) → i < length es → AreAnchors es → AreAnchors (get_or es i d ∷ drop (i + 1) es)
anchors_from es i d here valid = subst AreAnchors (drop_more es i d here) (anchors_drop i es valid)

-- one anchor more, before those that fit
module _ (rows columns : ℕ) (es : List Rectangle) (i : ℕ) (d : Rectangle) (here : i < length es) where
  pub fit_here : all_fit rows columns (drop i es) ≡ (fits_among rows columns (drop (i + 1) es) (get_or es i d) && all_fit rows columns (drop (i + 1) es))
  fit_here = ap (all_fit rows columns) (drop_more es i d here)

  pub unfit_outside : lies_inside rows columns (get_or es i d) ≡ false → all_fit rows columns es ≡ false
  unfit_outside out = unfit_drop rows columns i es (fit_here ∙ and_left _ _ (and_left _ _ out))

  pub unfit_met : list_all (λ (f : Rectangle). not (meets (get_or es i d) f)) (drop (i + 1) es) ≡ false → all_fit rows columns es ≡ false
  unfit_met met = unfit_drop rows columns i es (fit_here ∙ and_left _ _ (and_right (lies_inside rows columns (get_or es i d)) _ met))
