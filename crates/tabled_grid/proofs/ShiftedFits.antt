-- How rectangles lie once a line is put in that none of them crosses.
use Rattle.tabled_grid.proofs.Common.{[], ◌+◌, ◌-◌, ◌<◌, ◌∙◌, ◌∷◌, ◌≡◌, ◌≢◌, ◌≤◌, ◌⊎◌, Axis, Columns, Fits, In, LiesInside, List, None, Option, Position, Rectangle, Rows, Size, Some, SpanMap, and_from, ap, ap₂, arith, cases_lt, cond, crosses_line, false, false≢true, get, inl, inr, is_crossed, is_eq, line_of, lines_in, lt-ltb, next_line, none-some, place, position_cmp, rectangle, rectangles, refl, same_Some, shifted, shifted_in, shifted_place, subst, sym, true, ℕ}
use Rattle.tabled_grid.proofs.Geometry.{cases_place}
use Rattle.tabled_grid.proofs.Shifts.{Comes, anchors_shifted, comes, moves, stays}
use Rattle.tabled_grid.proofs.SpanMaps.{found-any, tied, untied}
use Rattle.tabled_grid.proofs.SortedEntries.{find_at, get-map_of, get-rectangles, rectangles_anchors}

-- an anchor that came from where another was
record CameIn (axis : Axis) (from : ℕ) (es : List Rectangle) (a : Position) (size : Size) : Type 0 where
  old : Position
  was : find_at old es ≡ Some size
  to : shifted_place axis from old ≡ Some a

came_in : (axis : Axis) (from : ℕ) (es : List Rectangle) (a : Position) (size : Size) → find_at a (shifted_in axis from es) ≡ Some size → CameIn axis from es a size
came_in axis from [] a size has = absurd (none-some size has)
came_in axis from (e ∷ es) a size has = of_first (shifted_place axis from e.first) refl (cases_place a) (came_in axis from es a size) has
  where
    -- one that comes elsewhere was elsewhere
    passed : (old : Position) → old ≢ e.first → find_at old es ≡ Some size → shifted_place axis from old ≡ Some a → CameIn axis from (e ∷ es) a size
    passed old n was to = record { old = old; was = cond_false old n was; to = to }
      where
        cond_false : (x : Position) → x ≢ e.first → find_at x es ≡ Some size → find_at x (e ∷ es) ≡ Some size
        cond_false x m h = ap (λ b. cond b (Some e.size) (find_at x es)) (untied x e.first m) ∙ h

    of_first : (s : Option Position) → shifted_place axis from e.first ≡ s → ((b : Position) → (a ≡ b) ⊎ (a ≢ b)) → (find_at a (shifted_in axis from es) ≡ Some size → CameIn axis from es a size) → find_at a (shifted_in axis from (e ∷ es)) ≡ Some size → CameIn axis from (e ∷ es) a size
    of_first None is same later h =
        let rest = later (rw is at h) in
        passed rest.old (λ eq. none-some a (sym is ∙ ap (shifted_place axis from) (sym eq) ∙ rest.to)) rest.was rest.to
    of_first (Some p) is same later h = here (same p) (rw is at h)
      where
        here : (a ≡ p) ⊎ (a ≢ p) → cond (is_eq (position_cmp a p)) (Some e.size) (find_at a (shifted_in axis from es)) ≡ Some size → CameIn axis from (e ∷ es) a size
        here (inl eq) g =
            let value = same_Some e.size size (sym (ap (λ b. cond b (Some e.size) (find_at a (shifted_in axis from es))) (subst (λ x. is_eq (position_cmp a x) ≡ true) eq (tied a))) ∙ g) in
            record { old = e.first; was = ap (λ b. cond b (Some e.size) (find_at e.first es)) (tied e.first) ∙ ap Some value; to = is ∙ ap Some (sym eq) }
        here (inr n) g =
            let rest = later (sym (ap (λ b. cond b (Some e.size) (find_at a (shifted_in axis from es))) (untied a p n)) ∙ g) in
            passed rest.old (λ eq. n (same_Some a p (sym rest.to ∙ ap (shifted_place axis from) eq ∙ is))) rest.was rest.to

-- an anchor of the map once a line is put in was in the map before
pub record Came (axis : Axis) (from : ℕ) (m : SpanMap) (a : Position) (size : Size) : Type 0 where
  pub old : Position
  pub was : get m old ≡ Some size
  pub comes : Comes axis from old a

pub came : (axis : Axis) (from : ℕ) (m : SpanMap) (a : Position) (size : Size) → get (shifted axis from m) a ≡ Some size → Came axis from m a size
came axis from m a size has =
    let valid = anchors_shifted axis from (rectangles m) (rectangles_anchors m) in
    let it = came_in axis from (rectangles m) a size (sym (get-map_of (shifted_in axis from (rectangles m)) a valid) ∙ has) in
    record { old = it.old; was = get-rectangles m it.old ∙ it.was; comes = comes axis from it.old a it.to }

-- a rectangle that begins before a line that none crosses ends before it
ends_before : (axis : Axis) (line : ℕ) (m : SpanMap) (a : Position) (size : Size) → is_crossed axis line m ≡ false → get m a ≡ Some size → line_of axis a < line → line_of axis a + lines_in axis size ≤ line
ends_before axis line m a size free has before = elim (cases_lt line (line_of axis a + lines_in axis size)) [
  | inl over ↦ absurd (false≢true (sym free ∙ found-any (crosses_line axis line) (rectangles m) a size (sym (get-rectangles m a) ∙ has) (and_from _ _ (lt-ltb _ _ before) (lt-ltb _ _ over))))
  | inr ends ↦ ends
]

-- no rectangle holds a cell of the line that was put in
pub line_is_free : (axis : Axis) (line : ℕ) (m : SpanMap) (a q : Position) (size : Size) → is_crossed axis line m ≡ false → get (shifted axis line m) a ≡ Some size → In (rectangle a size) q → line_of axis q ≢ line
line_is_free axis line m a q size free has holds same = at axis it.old (ends_before axis line m it.old size free it.was) it.comes holds same
  where
    it : Came axis line m a size
    it = came axis line m a size has

    at : (x : Axis) (old : Position) → (line_of x old < line → line_of x old + lines_in x size ≤ line) → Comes x line old a → In (rectangle a size) q → line_of x q ≡ line → ⊥
    at Rows old ends (stays before is) h e = let k = rw is at h in omega (arith, k.bottom, ends before, e)
    at Rows old ends (moves after is) h e = let k = rw is at h in omega (arith, k.top, after, e)
    at Columns old ends (stays before is) h e = let k = rw is at h in omega (arith, k.right, ends before, e)
    at Columns old ends (moves after is) h e = let k = rw is at h in omega (arith, k.left, after, e)

-- a rectangle that came one further holds what it held, one further
held_before : (axis : Axis) (old p : Position) (size : Size) → In (rectangle (next_line axis old) size) p → (q : Position) × In (rectangle old size) q × (p ≡ next_line axis q)
held_before Rows old p size h = (place (p.row - 1) p.col, record { top = omega (arith, h.top); bottom = omega (arith, h.top, h.bottom); left = h.left; right = h.right }, ap₂ place (omega (arith, h.top)) refl)
held_before Columns old p size h = (place p.row (p.col - 1), record { top = h.top; bottom = h.bottom; left = omega (arith, h.left); right = omega (arith, h.left, h.right) }, ap₂ place refl (omega (arith, h.left)))

same_before : (axis : Axis) (p q : Position) → next_line axis p ≡ next_line axis q → p ≡ q
same_before Rows p q e = ap₂ place (omega (arith, ap (λ (x : Position). x.row) e)) (ap (λ (x : Position). x.col) e)
same_before Columns p q e = ap₂ place (ap (λ (x : Position). x.row) e) (omega (arith, ap (λ (x : Position). x.col) e))

module _ (axis : Axis) (line : ℕ) (m : SpanMap) (rows columns : ℕ) (free : is_crossed axis line m ≡ false) (fits : Fits m rows columns) where
  -- one that stays and one that moves lie on the two sides of the line
  sides : (x : Axis) (a b p : Position) (s t : Size) → line_of x a + lines_in x s ≤ line → line ≤ line_of x b → In (rectangle a s) p → In (rectangle (next_line x b) t) p → ⊥
  sides Rows a b p s t ends after ha hb = omega (arith, ha.bottom, ends, after, hb.top)
  sides Columns a b p s t ends after ha hb = omega (arith, ha.right, ends, after, hb.left)

  pub apart_shifted : (a b : Position) (s t : Size) (p : Position) → get (shifted axis line m) a ≡ Some s → get (shifted axis line m) b ≡ Some t → In (rectangle a s) p → In (rectangle b t) p → a ≡ b
  apart_shifted a b s t p ha hb pa pb =
      let ca = came axis line m a s ha in
      let cb = came axis line m b t hb in
      once_moved ca.old cb.old ca.was cb.was ca.comes cb.comes
    where
      once_moved : (c d : Position) → get m c ≡ Some s → get m d ≡ Some t → Comes axis line c a → Comes axis line d b → a ≡ b
      once_moved c d hc hd (stays u is) (stays v js) = is ∙ (fits.each (rectangle c s) hc).alone (rectangle d t) p hd (rw is at pa) (rw js at pb) ∙ sym js
      once_moved c d hc hd (stays u is) (moves v js) = absurd (sides axis c d p s t (ends_before axis line m c s free hc u) v (rw is at pa) (rw js at pb))
      once_moved c d hc hd (moves u is) (stays v js) = absurd (sides axis d c p t s (ends_before axis line m d t free hd v) u (rw js at pb) (rw is at pa))
      once_moved c d hc hd (moves u is) (moves v js) =
          let qa = held_before axis c p s (rw is at pa) in
          let qb = held_before axis d p t (rw js at pb) in
          let same = same_before axis qa.0 qb.0 (sym qa.2 ∙ qb.2) in
          is ∙ ap (next_line axis) ((fits.each (rectangle c s) hc).alone (rectangle d t) qa.0 hd qa.1 (subst (In (rectangle d t)) (sym same) qb.1)) ∙ sym js

  -- they fit a table with one line more
  fits_longer : (r k : ℕ) → ((old a : Position) (size : Size) → LiesInside rows columns (rectangle old size) → Comes axis line old a → LiesInside r k (rectangle a size)) → Fits (shifted axis line m) r k
  fits_longer r k inside = record {
    each = λ e is. record {
      inside = let it = came axis line m e.first e.size is in inside it.old e.first e.size (fits.each (rectangle it.old e.size) it.was).inside it.comes;
      alone = λ f p js i j. apart_shifted e.first f.first e.size f.size p is js i j;
    };
  }

-- they fit the table with one row more
pub fits_below : (m : SpanMap) (line : ℕ) (rows columns : ℕ) → is_crossed Rows line m ≡ false → Fits m rows columns → Fits (shifted Rows line m) (rows + 1) columns
fits_below m line rows columns free fits = fits_longer Rows line m rows columns free fits (rows + 1) columns inside
  where
    inside : (old a : Position) (size : Size) → LiesInside rows columns (rectangle old size) → Comes Rows line old a → LiesInside (rows + 1) columns (rectangle a size)
    inside old a size was (stays before is) = rw is (record { bottom = omega (arith, was.bottom); right = was.right })
    inside old a size was (moves after is) = rw is (record { bottom = omega (arith, was.bottom); right = was.right })

-- they fit the table with one column more
pub fits_beside : (m : SpanMap) (line : ℕ) (rows columns : ℕ) → is_crossed Columns line m ≡ false → Fits m rows columns → Fits (shifted Columns line m) rows (columns + 1)
fits_beside m line rows columns free fits = fits_longer Columns line m rows columns free fits rows (columns + 1) inside
  where
    inside : (old a : Position) (size : Size) → LiesInside rows columns (rectangle old size) → Comes Columns line old a → LiesInside rows (columns + 1) (rectangle a size)
    inside old a size was (stays before is) = rw is (record { bottom = was.bottom; right = omega (arith, was.right) })
    inside old a size was (moves after is) = rw is (record { bottom = was.bottom; right = omega (arith, was.right) })
