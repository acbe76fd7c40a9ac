-- How rectangles lie while spans are set, and once hidden anchors are dropped. What is said of columns is
-- said of rows with rows and columns exchanged.
use Rattle.tabled_grid.proofs.Common.{[], ◌+◌, ◌<◌, ◌∙◌, ◌∷◌, ◌≡◌, ◌≢◌, ◌≤◌, ◌⊎◌, AllByRecursion, Fits, In, IsSpan, LiesInside, List, Midway, None, Position, Rectangle, Size, Some, SpanMap, ap, ap₂, arith, drop_hidden, false, false_from_ne_true, fold, get, inl, inr, is_visible, nat_eq, place, rectangle, refl, rules, size_at, sized, subst, sym, true, with_column_span, with_row_span, with_size, ℕ}
use borrow.Author.Tests.{eqb-true}
use Rattle.tabled_grid.proofs.Geometry.{Flat, Hooked, Narrow, Widened, LieWithin, cases_place, flat_flipped, flat_widened, flip, flip_size, flipped, full_flipped, hooked_flat, hooked_flipped, hooked_widened, narrow_flipped, visible_flipped, within_flipped, within_widened}
use Rattle.tabled_grid.proofs.SortedEntries.{span_at}
use Rattle.tabled_grid.proofs.SpanMaps.{At, HasVisible, at, full, kept, kept_or_one, none, size_at-none, size_at-some, size_at-with_size, size_at-with_size-other, some, visible, with_size-other}

-- rectangles that fit

hooked_fits : (m : SpanMap) (rows columns : ℕ) → Fits m rows columns → Hooked (size_at m)
hooked_fits m rows columns fits = record { hook = λ a b p ha hb. anchored a b p ha hb (at m a) (at m b) }
  where
    alone : (a b p : Position) → get m a ≡ None → In (rectangle a (size_at m a)) p → In (rectangle b (size_at m b)) p → In (rectangle b (size_at m b)) a
    alone a b p e ha hb = let h = rw (size_at-none m a e) at ha in record { top = omega (arith, h.top, h.bottom, hb.top, hb.bottom); bottom = omega (arith, h.top, h.bottom, hb.top, hb.bottom); left = omega (arith, h.left, h.right, hb.left, hb.right); right = omega (arith, h.left, h.right, hb.left, hb.right) }

    itself : (a p : Position) → In (rectangle a (size_at m a)) p → In (rectangle a (size_at m a)) a
    itself a p ha = record { top = omega arith; bottom = omega (arith, ha.top, ha.bottom); left = omega arith; right = omega (arith, ha.left, ha.right) }

    anchored : (a b p : Position) → In (rectangle a (size_at m a)) p → In (rectangle b (size_at m b)) p → At m a → At m b → In (rectangle a (size_at m a)) b ⊎ In (rectangle b (size_at m b)) a
    anchored a b p ha hb (none e) c = inr (alone a b p e ha hb)
    anchored a b p ha hb (some s e) (none f) = inl (alone b a p f hb ha)
    anchored a b p ha hb (some s e) (some t f) =
        let same = (fits.each (rectangle a s) e).alone (rectangle b t) p f (rw (size_at-some m a s e) at ha) (rw (size_at-some m b t f) at hb) in
        inl (subst (λ (x : Position). In (rectangle a (size_at m a)) x) same (itself a p ha))

-- before the first span is set
pub midway : (m : SpanMap) (rows columns : ℕ) → Fits m rows columns → Midway m rows columns
midway m rows columns fits = record {
  hooked = hooked_fits m rows columns fits;
  within = record { tall = λ a h. tall a (at m a) h; wide = λ a h. wide a (at m a) h };
}
  where
    one : (a : Position) → get m a ≡ None → (1 < (size_at m a).height) ⊎ (1 < (size_at m a).width) → ⊥
    one a e (inl h) = let k = rw (size_at-none m a e) at h in omega arith
    one a e (inr h) = let k = rw (size_at-none m a e) at h in omega arith

    tall : (a : Position) → At m a → (1 < (size_at m a).height) ⊎ (1 < (size_at m a).width) → a.row + (size_at m a).height ≤ rows
    tall a (none e) h = absurd (one a e h)
    tall a (some s e) h = rw (size_at-some m a s e) (fits.each (rectangle a s) e).inside.bottom

    wide : (a : Position) → At m a → (1 < (size_at m a).height) ⊎ (1 < (size_at m a).width) → a.col + (size_at m a).width ≤ columns
    wide a (none e) h = absurd (one a e h)
    wide a (some s e) h = rw (size_at-some m a s e) (fits.each (rectangle a s) e).inside.right

-- after the last: once hidden anchors are dropped, all at once, the rectangles fit
pub fits_dropped : (m : SpanMap) (rows columns : ℕ) → Midway m rows columns → Fits (drop_hidden m) rows columns
fits_dropped m rows columns mid = record { each = λ e is. record { inside = inside e (kept m e.first e.size is); alone = λ f p js i j. alone e f p (kept m e.first e.size is) (kept m f.first f.size js) i j } }
  where
    inside : (e : Rectangle) → HasVisible m e.first e.size → LiesInside rows columns e
    inside e was =
        let is = size_at-some m e.first e.size was.had in
        let more = (span_at m e.first e.size was.had).merges in
        record { bottom = subst (λ (s : Size). e.first.row + s.height ≤ rows) is (mid.within.tall e.first (rw is more)); right = subst (λ (s : Size). e.first.col + s.width ≤ columns) is (mid.within.wide e.first (rw is more)) }

    in_one : (a b : Position) → is_visible m a ≡ true → is_visible m b ≡ true → In (rectangle a (size_at m a)) b ⊎ In (rectangle b (size_at m b)) a → a ≡ b
    in_one a b sa sb (inl h) = visible m b sb a h
    in_one a b sa sb (inr h) = sym (visible m a sa b h)

    alone : (e f : Rectangle) (p : Position) → HasVisible m e.first e.size → HasVisible m f.first f.size → In e p → In f p → e.first ≡ f.first
    alone e f p ka kb i j = in_one e.first f.first ka.shown kb.shown (mid.hooked.hook e.first f.first p (rw (size_at-some m e.first e.size ka.had) i) (rw (size_at-some m f.first f.size kb.had) j))

-- widths and heights that are set

positive : (w : ℕ) → 1 ≤ w → nat_eq w 0 ≡ false
positive w h = false_from_ne_true _ (λ e. omega (arith, eqb-true w 0 e))

-- a width of at least 1
pub column_span-is : (m : SpanMap) (p : Position) (w : ℕ) → 1 ≤ w → with_column_span m p w ≡ with_size m p (sized (size_at m p).height w)
column_span-is m p w h = rw (positive w h) refl

-- a height of at least 1
pub row_span-is : (m : SpanMap) (p : Position) (h : ℕ) → 1 ≤ h → with_row_span m p h ≡ with_size m p (sized h (size_at m p).width)
row_span-is m p h k = rw (positive h k) refl

module _ (m : SpanMap) (p : Position) (w : ℕ) (some_width : 1 ≤ w) where
  widened : Widened (size_at m) (size_at (with_column_span m p w)) p w
  widened = rw (column_span-is m p w some_width) (record { here = size_at-with_size m p (sized (size_at m p).height w) ((full m).height p) some_width; others = λ q n. size_at-with_size-other m p (sized (size_at m p).height w) q n })

  heightened : Widened (flipped (size_at m)) (flipped (size_at (with_row_span m p w))) (flip p) w
  heightened = rw (row_span-is m p w some_width) (record {
    here = ap flip_size (size_at-with_size m p (sized w (size_at m p).width) some_width ((full m).width p));
    others = λ q n. ap flip_size (size_at-with_size-other m p (sized w (size_at m p).width) (flip q) (λ e. n (ap flip e)));
  })

  module _ (rows columns : ℕ) where
    pub within_wide : p.row < rows → p.col + w ≤ columns → LieWithin (size_at m) rows columns → LieWithin (size_at (with_column_span m p w)) rows columns
    within_wide row fits within = within_widened (size_at m) _ p w rows columns widened some_width row fits within

    pub within_high : p.col < columns → p.row + w ≤ rows → LieWithin (size_at m) rows columns → LieWithin (size_at (with_row_span m p w)) rows columns
    within_high col fits within = within_flipped _ columns rows (within_widened (flipped (size_at m)) _ (flip p) w columns rows heightened some_width col fits (within_flipped (size_at m) rows columns within))

    -- a width over visible cells
    pub midway_widened : p.row < rows → p.col + w ≤ columns → ((k : ℕ) → p.col ≤ k → k < p.col + w → is_visible m (place p.row k) ≡ true) → Midway m rows columns → Midway (with_column_span m p w) rows columns
    midway_widened row fits all mid = search (rules, hooked_widened, full, visible, widened, within_wide)

    -- a height over visible cells
    pub midway_heightened : p.col < columns → p.row + w ≤ rows → ((k : ℕ) → p.row ≤ k → k < p.row + w → is_visible m (place k p.col) ≡ true) → Midway m rows columns → Midway (with_row_span m p w) rows columns
    midway_heightened col fits all mid = record {
      hooked = hooked_flipped _ (hooked_widened (flipped (size_at m)) (flip p) w (full_flipped (size_at m) (full m)) (hooked_flipped (size_at m) mid.hooked) (λ k low high. visible_flipped (size_at m) (place k p.col) (visible m (place k p.col) (all k low high))) _ heightened);
      within = within_high col fits mid.within;
    }

-- what each step at a place of a table keeps, all steps keep
pub fold-keeps : (P : SpanMap → Type 0) (step : SpanMap → Position → SpanMap) (rows columns : ℕ) → ((m : SpanMap) (p : Position) → p.row < rows → p.col < columns → P m → P (step m p)) → (places : List Position) (m : SpanMap) → AllByRecursion (λ (p : Position). (p.row < rows) × (p.col < columns)) places → P m → P (fold step m places)
fold-keeps P step rows columns keeps [] m here start = start
fold-keeps P step rows columns keeps (p ∷ places) m here start = fold-keeps P step rows columns keeps places (step m p) here.1 (keeps m p here.0.0 here.0.1 start)

-- rectangles of one row, or of one column, whatever width or height is set

pub midway_flat : (m : SpanMap) (rows columns : ℕ) → Flat (size_at m) → LieWithin (size_at m) rows columns → Midway m rows columns
midway_flat m rows columns flat within = record { hooked = hooked_flat (size_at m) (full m) flat; within = within }

pub midway_narrow : (m : SpanMap) (rows columns : ℕ) → Narrow (size_at m) → LieWithin (size_at m) rows columns → Midway m rows columns
midway_narrow m rows columns narrow within = record { hooked = hooked_flipped _ (hooked_flat (flipped (size_at m)) (full_flipped (size_at m) (full m)) (narrow_flipped (size_at m) narrow)); within = within }

pub flat_column_span : (m : SpanMap) (p : Position) (w : ℕ) → 1 ≤ w → Flat (size_at m) → Flat (size_at (with_column_span m p w))
flat_column_span m p w h flat = flat_widened (size_at m) _ p w (widened m p w h) flat

pub narrow_row_span : (m : SpanMap) (p : Position) (h : ℕ) → 1 ≤ h → Narrow (size_at m) → Narrow (size_at (with_row_span m p h))
narrow_row_span m p h k narrow = flat_flipped _ (flat_widened (flipped (size_at m)) _ (flip p) h (heightened m p h k) (narrow_flipped (size_at m) narrow))

pub flat_dropped : (m : SpanMap) → Flat (size_at m) → Flat (size_at (drop_hidden m))
flat_dropped m flat = record { height = λ a. elim (kept_or_one m a) [ inl e ↦ ap (λ (s : Size). s.height) e ∙ flat.height a | inr e ↦ ap (λ (s : Size). s.height) e ] }

pub narrow_dropped : (m : SpanMap) → Narrow (size_at m) → Narrow (size_at (drop_hidden m))
narrow_dropped m narrow = record { width = λ a. elim (kept_or_one m a) [ inl e ↦ ap (λ (s : Size). s.width) e ∙ narrow.width a | inr e ↦ ap (λ (s : Size). s.width) e ] }

-- a rectangle that shares no cell with another's, and lies inside, is set beside rectangles that fit
pub fits_with : (m : SpanMap) (p : Position) (size : Size) (rows columns : ℕ) → IsSpan size → p.row + size.height ≤ rows → p.col + size.width ≤ columns → ((a q : Position) (s : Size) → get m a ≡ Some s → In (rectangle a s) q → In (rectangle p size) q → a ≡ p) → Fits m rows columns → Fits (with_size m p size) rows columns
fits_with m p size rows columns merges tall wide free fits = record { each = λ e is. record { inside = inside e is (cases_place e.first p); alone = λ f q js i j. alone e f q is js i j (cases_place e.first p) (cases_place f.first p) } }
  where
    here : (e : Rectangle) → get (with_size m p size) e.first ≡ Some e.size → e.first ≡ p → e ≡ rectangle p size
    here e is same =
        let has : get (with_size m p size) p ≡ Some e.size = subst (λ x. get (with_size m p size) x ≡ Some e.size) same is in
        ap₂ rectangle same (sym (size_at-some (with_size m p size) p e.size has) ∙ size_at-with_size m p size merges.height merges.width)

    there : (e : Rectangle) → e.first ≢ p → get (with_size m p size) e.first ≡ Some e.size → get m e.first ≡ Some e.size
    there e n is = sym (with_size-other m p size e.first n) ∙ is

    inside : (e : Rectangle) → get (with_size m p size) e.first ≡ Some e.size → (e.first ≡ p) ⊎ (e.first ≢ p) → LiesInside rows columns e
    inside e is (inl same) = subst (LiesInside rows columns) (sym (here e is same)) (record { bottom = tall; right = wide })
    inside e is (inr n) = (fits.each e (there e n is)).inside

    alone : (e f : Rectangle) (q : Position) → get (with_size m p size) e.first ≡ Some e.size → get (with_size m p size) f.first ≡ Some f.size → In e q → In f q → (e.first ≡ p) ⊎ (e.first ≢ p) → (f.first ≡ p) ⊎ (f.first ≢ p) → e.first ≡ f.first
    alone e f q is js i j (inl same) (inl also) = same ∙ sym also
    alone e f q is js i j (inl same) (inr n) = same ∙ sym (free f.first q f.size (there f n js) j (subst (λ g. In g q) (here e is same) i))
    alone e f q is js i j (inr n) (inl also) = free e.first q e.size (there e n is) i (subst (λ g. In g q) (here f js also) j) ∙ sym also
    alone e f q is js i j (inr n) (inr k) = (fits.each e (there e n is)).alone f q (there f k js) i j
