-- What is left once the rectangles that do not fit have gone.
use Rattle.tabled_grid.proofs.Common.{◌∙◌, ◌≡◌, All-filter, All-from_recursion, AreAnchors, Fits, FitsAmong, List, None, Option, Rectangle, Size, Some, SpanMap, elsewhere, fits_among, fitting, get, keep_fitting, rectangle, rectangles, recursion_from_All, refl, rules, sym, ℕ}
use Rattle.tabled_grid.proofs.FittingAnchors.{among-from, among-true}
use Rattle.tabled_grid.proofs.Members.{filter-from, filter-member, find-member, get-member, member-get, sorted-filter, sorted-find}
use Rattle.tabled_grid.proofs.SortedEntries.{get-map_of, rectangles_anchors, same_map}

pub anchors-fitting : (rows columns : ℕ) (es : List Rectangle) → AreAnchors es → AreAnchors (fitting rows columns es)
anchors-fitting rows columns es valid = search (rules, sorted-filter, recursion_from_All, All-filter, All-from_recursion)

module _ (rows columns : ℕ) (m : SpanMap) where
  left : AreAnchors (fitting rows columns (rectangles m))
  left = anchors-fitting rows columns (rectangles m) (rectangles_anchors m)

  -- just those that fit among the others are left
  pub kept-fits : (e : Rectangle) → get (keep_fitting rows columns m) e.first ≡ Some e.size → (get m e.first ≡ Some e.size) × FitsAmong m rows columns e
  kept-fits e is =
      let found = filter-member (λ (f : Rectangle). fits_among rows columns (elsewhere f.first (rectangles m)) f) e (rectangles m) (find-member (fitting rows columns (rectangles m)) e.first e.size (sym (get-map_of (fitting rows columns (rectangles m)) e.first left) ∙ is)) in
      (member-get m e found.0, among-true rows columns m e found.1)

  pub fits-kept : (e : Rectangle) → get m e.first ≡ Some e.size → FitsAmong m rows columns e → get (keep_fitting rows columns m) e.first ≡ Some e.size
  fits-kept e is fits =
      let i = get-member m e is in
      get-map_of (fitting rows columns (rectangles m)) e.first left
      ∙ sorted-find (fitting rows columns (rectangles m)) e left.sorted (filter-from (λ (f : Rectangle). fits_among rows columns (elsewhere f.first (rectangles m)) f) e (rectangles m) i (among-from rows columns m e i fits))

  pub keep_fitting-fits : Fits (keep_fitting rows columns m) rows columns
  keep_fitting-fits = record { each = λ e is. let fits = (kept-fits e is).1 in record { inside = fits.inside; alone = λ f p js. fits.alone f p (kept-fits f js).0 } }

  -- where all fit, all are left
  pub keep_fitting-all : Fits m rows columns → keep_fitting rows columns m ≡ m
  keep_fitting-all fits = same_map _ _ (λ q. same q (get m q) refl (get (keep_fitting rows columns m) q) refl)
    where
      same : (q : _) (x : Option Size) → get m q ≡ x → (y : Option Size) → get (keep_fitting rows columns m) q ≡ y → get (keep_fitting rows columns m) q ≡ get m q
      same q (Some s) is y js = fits-kept (rectangle q s) is (fits.each (rectangle q s) is) ∙ sym is
      same q None is (Some s) js = js ∙ sym (kept-fits (rectangle q s) js).0
      same q None is None js = js ∙ sym is
