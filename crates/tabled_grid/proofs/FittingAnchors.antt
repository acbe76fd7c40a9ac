-- The rectangles of a map all fit just where the map does.
use Rattle.tabled_grid.proofs.Common.{[], ◌∙◌, ◌∷◌, ◌≡◌, AreSorted, Decides, Fits, FitsAmong, HasArea, List, LiesInside, Position, Rectangle, SpanMap, all_fit, and_from, and_parts, ap, cases_Bool, elsewhere, eq_by_cmp, false, false_from_ne_true, false≢true, fits_among, inl, inr, lies_inside, list_all, meets, not, not_from_false, not_from_true, position_cmp, rectangles, refl, subst, sym, true, ℕ, ◌⊎◌}
use Rattle.tabled_grid.proofs.Members.{Member, all-from, all-member, below-member, filter-from, filter-member, get-member, member-get}
use Rattle.tabled_grid.proofs.Order.{before-less, before_other}
use Rattle.tabled_grid.proofs.Rectangles.{common_cell, lies_inside-from, lies_inside-true, meets-common, meets-true, meets-turned}
use Rattle.tabled_grid.proofs.SortedEntries.{halves, positions_exact, rectangles_sorted, span_at}
use Rattle.tabled_grid.proofs.SpanMaps.{equal, tied}

-- two that meet do not pass the test that they don't
pub unmet : (e f : Rectangle) → not (meets e f) ≡ true → meets e f ≡ true → ⊥
unmet e f apart met = false≢true (sym (not_from_true (meets e f) met) ∙ apart)

module _ (rows columns : ℕ) where
  pub fit-inside : (es : List Rectangle) (e : Rectangle) → all_fit rows columns es ≡ true → Member e es → LiesInside rows columns e
  fit-inside [] e fit none = absurd none
  fit-inside (x ∷ es) e fit (inl same) = subst (LiesInside rows columns) (sym same) (lies_inside-true rows columns x (and_parts _ _ (and_parts _ _ fit).0).0)
  fit-inside (x ∷ es) e fit (inr m) = fit-inside es e (and_parts (fits_among rows columns es x) _ fit).1 m

  -- of rectangles that fit two that meet are one
  pub fit-one : (es : List Rectangle) (e f : Rectangle) → all_fit rows columns es ≡ true → Member e es → Member f es → meets e f ≡ true → e ≡ f
  fit-one [] e f fit none other met = absurd none
  fit-one (x ∷ es) e f fit here there met = one here there (λ m n. fit-one es e f (and_parts (fits_among rows columns es x) _ fit).1 m n met)
    where
      apart : (g : Rectangle) → Member g es → meets x g ≡ true → ⊥
      apart g m t = unmet x g (all-member (λ (h : Rectangle). not (meets x h)) g es (and_parts (lies_inside rows columns x) _ (and_parts _ _ fit).0).1 m) t

      one : (e ≡ x) ⊎ Member e es → (f ≡ x) ⊎ Member f es → (Member e es → Member f es → e ≡ f) → e ≡ f
      one (inl a) (inl b) later = a ∙ sym b
      one (inl a) (inr n) later = absurd (apart f n (ap (λ (g : Rectangle). meets g f) (sym a) ∙ met))
      one (inr m) (inl b) later = absurd (apart e m (ap (λ (g : Rectangle). meets g e) (sym b) ∙ meets-turned f e ∙ met))
      one (inr m) (inr n) later = later m n

  -- rectangles in order fit where each lies inside, and those that meet are anchored at one place
  fit-from : (es : List Rectangle) → AreSorted es → ((e : Rectangle) → Member e es → LiesInside rows columns e) → ((e f : Rectangle) → Member e es → Member f es → meets e f ≡ true → e.first ≡ f.first) → all_fit rows columns es ≡ true
  fit-from [] up inside same = refl
  fit-from (e ∷ es) up inside same =
      and_from _ _ (and_from _ _ (lies_inside-from rows columns e (inside e (inl refl))) (all-from (λ (f : Rectangle). not (meets e f)) es (λ f m. not_from_false _ (false_from_ne_true _ (λ t. before_other e.first f.first (before-less e.first f.first (below-member e.first es f (halves _ _ up).0 m)) (same e f (inl refl) (inr m) t))))))
      (fit-from es (halves _ _ up).1 (λ f m. inside f (inr m)) (λ f g m n. same f g (inr m) (inr n)))

  module _ (m : SpanMap) where
    full : (e : Rectangle) → Member e (rectangles m) → HasArea e
    full e i = let size = span_at m e.first e.size (member-get m e i) in record { height = size.height; width = size.width }

    -- one that fits among the others shares a cell with none of them
    pub among-true : (e : Rectangle) → fits_among rows columns (elsewhere e.first (rectangles m)) e ≡ true → FitsAmong m rows columns e
    among-true e t = record { inside = lies_inside-true rows columns e parts.0; alone = λ f p is i j. one f (get-member m f is) (meets-common e f p i j) (cases_Bool (eq_by_cmp position_cmp e.first f.first)) }
      where
        parts : (lies_inside rows columns e ≡ true) × (list_all (λ (f : Rectangle). not (meets e f)) (elsewhere e.first (rectangles m)) ≡ true)
        parts = and_parts _ _ t

        one : (f : Rectangle) → Member f (rectangles m) → meets e f ≡ true → (eq_by_cmp position_cmp e.first f.first ≡ true) ⊎ (eq_by_cmp position_cmp e.first f.first ≡ false) → e.first ≡ f.first
        one f i met (inl same) = positions_exact e.first f.first (equal _ same)
        one f i met (inr other) = absurd (unmet e f (all-member (λ (g : Rectangle). not (meets e g)) f (elsewhere e.first (rectangles m)) parts.1 (filter-from (λ (g : Rectangle). not (eq_by_cmp position_cmp e.first g.first)) f (rectangles m) i (not_from_false _ other))) met)

    -- two of a map that fits are anchored at one place, where they meet
    one_anchor : (e f : Rectangle) → FitsAmong m rows columns e → Member e (rectangles m) → Member f (rectangles m) → meets e f ≡ true → e.first ≡ f.first
    one_anchor e f fits i j met = let cell = common_cell e f (full e i) (full f j) (meets-true e f met) in fits.alone f cell.0 (member-get m f j) cell.1 cell.2

    pub among-from : (e : Rectangle) → Member e (rectangles m) → FitsAmong m rows columns e → fits_among rows columns (elsewhere e.first (rectangles m)) e ≡ true
    among-from e i fits =
        and_from _ _ (lies_inside-from rows columns e fits.inside)
        (all-from (λ (f : Rectangle). not (meets e f)) (elsewhere e.first (rectangles m)) (λ f j.
        let found = filter-member (λ (g : Rectangle). not (eq_by_cmp position_cmp e.first g.first)) f (rectangles m) j in
        not_from_false _ (false_from_ne_true _ (λ met. false≢true (sym (not_from_true _ (subst (λ (p : Position). eq_by_cmp position_cmp e.first p ≡ true) (one_anchor e f fits i found.0 met) (tied e.first))) ∙ found.1)))))

    fits-true : all_fit rows columns (rectangles m) ≡ true → Fits m rows columns
    fits-true fit = record { each = λ e is. record { inside = fit-inside (rectangles m) e fit (get-member m e is); alone = λ f p js i j. ap (λ (g : Rectangle). g.first) (fit-one (rectangles m) e f fit (get-member m e is) (get-member m f js) (meets-common e f p i j)) } }

    pub fits-from : Fits m rows columns → all_fit rows columns (rectangles m) ≡ true
    fits-from fits = fit-from (rectangles m) (rectangles_sorted m) (λ e i. (fits.each e (member-get m e i)).inside) (λ e f i j. one_anchor e f (fits.each e (member-get m e i)) i j)

    -- the test of its list decides whether a map fits
    pub fits_decided : Decides (all_fit rows columns (rectangles m)) (Fits m rows columns)
    fits_decided = (fits-true, fits-from)
