-- Rectangles carried along fit the new table, and the map of them is the image.
use Rattle.tabled_carry.proofs.Common.{[], ◌+◌, ◌-◌, ◌<◌, ◌∙◌, ◌∷◌, ◌≡◌, ◌≤◌, ◌⊎◌, AllByRecursion, Bool, Carries, Fits, HasArea, HasSize, In, IsImage, IsSpan, LiesInside, List, Member, None, Option, Places, Position, Rectangle, Size, Some, SpanMap, Takes, alike, all-from, all-member, and_from, and_parts, any-from, any-member, ap, ap₂, arith, block, block-from, block-member, carries, cases_lt, cells_in, common_steps, false, filter-from, filter-member, find-member, find_at, flat_map-from, flat_map-member, get, get-from_rectangles, get-rectangles, holds, holds-from, holds-true, image, images, inl, inr, list_all, list_any, map, map-from, map-member, member-find, old_place_passes, place, rectangle, rectangles, rectangles_inside, rectangles_sorted, refl, same_Some, same_map, same_place, same_place-self, same_place-true, sized, sorted-find, span_at, subst, sym, true, ℕ}

-- the first and the last cell of a rectangle
abbrev last_of : Rectangle → Position
last_of f = place (f.first.row + (f.size.height - 1)) (f.first.col + (f.size.width - 1))

pub first_in : (f : Rectangle) → HasArea f → In f f.first
first_in f full = record { top = omega arith; bottom = omega (arith, full.height); left = omega arith; right = omega (arith, full.width) }

last_in : (f : Rectangle) → HasArea f → In f (last_of f)
last_in f full = record { top = omega arith; bottom = omega (arith, full.height); left = omega arith; right = omega (arith, full.width) }

-- rectangles with the same cells are one
pub same_cells : (f g : Rectangle) → HasArea f → HasArea g → ((p : Position) → In f p → In g p) → ((p : Position) → In g p → In f p) → f ≡ g
same_cells f g full full' to back =
    let a = to f.first (first_in f full) in
    let b = back g.first (first_in g full') in
    let c = to (last_of f) (last_in f full) in
    let d = back (last_of g) (last_in g full') in
    let row : f.first.row ≡ g.first.row = omega (arith, a.top, b.top) in
    let col : f.first.col ≡ g.first.col = omega (arith, a.left, b.left) in
    let height : f.size.height ≡ g.size.height = omega (arith, row, c.bottom, d.bottom, full.height, full'.height) in
    let width : f.size.width ≡ g.size.width = omega (arith, col, c.right, d.right, full.width, full'.width) in
    ap₂ rectangle (ap₂ place row col) (ap₂ sized height width)

pub sizes_of : (ys : List Rectangle) → ((f : Rectangle) → Member f ys → IsSpan f.size) → AllByRecursion HasSize ys
sizes_of [] each = tt
sizes_of (f ∷ ys) each = (each f (inl refl), sizes_of ys (λ g m. each g (inr m)))

module _ (places : Places) where
  -- a new place has one old place
  pub takes_one : (p q r : Position) → Takes places p q → Takes places p r → q ≡ r
  takes_one p q r a b = same_Some q r (sym a.from ∙ b.from)

  -- a rectangle is carried to one rectangle at most
  pub carries_one : (e f g : Rectangle) → HasArea f → HasArea g → Carries places e f → Carries places e g → f ≡ g
  carries_one e f g full full' c d = same_cells f g full full' (λ p h. let t = c.from p h in d.only p t.0 t.2 t.1) (λ p h. let t = d.from p h in c.only p t.0 t.2 t.1)

  -- more than one cell goes to more than one
  pub carries_more : (e f : Rectangle) → HasArea f → Carries places e f → IsSpan e.size → IsSpan f.size
  carries_more e f full c size = record { height = full.height; width = full.width; merges = elim (cases_lt 1 f.size.height) [ inl tall ↦ inl tall | inr low ↦ elim (cases_lt 1 f.size.width) [ inl wide ↦ inr wide | inr thin ↦ absurd (never low thin size.merges) ] ] }
    where
      first : In e e.first
      first = first_in e (record { height = size.height; width = size.width })

      -- two cells that have the one place are one
      alone : f.size.height ≤ 1 → f.size.width ≤ 1 → (q : Position) → In e q → q ≡ e.first
      alone low thin q h =
          let t = c.all q h in
          let u = c.all e.first first in
          let i = c.only t.0 q t.1 h in
          let j = c.only u.0 e.first u.1 first in
          let row : t.0.row ≡ u.0.row = omega (arith, i.top, i.bottom, j.top, j.bottom, low) in
          let col : t.0.col ≡ u.0.col = omega (arith, i.left, i.right, j.left, j.right, thin) in
          takes_one u.0 q e.first (subst (λ x. Takes places x q) (ap₂ place row col) t.1) u.1

      never : f.size.height ≤ 1 → f.size.width ≤ 1 → (1 < e.size.height) ⊎ (1 < e.size.width) → ⊥
      never low thin (inl tall) =
          let same = alone low thin (place (e.first.row + 1) e.first.col) (record { top = omega arith; bottom = omega (arith, tall); left = omega arith; right = omega (arith, size.width) }) in
          omega (arith, ap (λ (x : Position). x.row) same)
      never low thin (inr wide) =
          let same = alone low thin (place e.first.row (e.first.col + 1)) (record { top = omega arith; bottom = omega (arith, size.height); left = omega arith; right = omega (arith, wide) }) in
          omega (arith, ap (λ (x : Position). x.col) same)

  -- an image of what fits, fits
  pub image_fits : (old new : SpanMap) (rows columns : ℕ) → IsImage places old new → Fits old rows columns → Fits new places.size.height places.size.width
  image_fits old new rows columns is fits = record { each = λ e has. record { inside = inside e has; alone = λ f p had i j. meet e.first f.first p e.size f.size (is.comes e.first e.size has) (is.comes f.first f.size had) i j } }
    where
      inside : (f : Rectangle) → get new f.first ≡ Some f.size → LiesInside places.size.height places.size.width f
      inside f has =
          let c = is.comes f.first f.size has in
          let last = (c.3.from (last_of f) (last_in f c.4)).2 in
          record { bottom = omega (arith, last.row, c.4.height); right = omega (arith, last.col, c.4.width) }

      meet : (a b p : Position) (s t : Size) (c : (k : Position) × (z : Size) × (get old k ≡ Some z) × Carries places (rectangle k z) (rectangle a s) × HasArea (rectangle a s)) (d : (k : Position) × (z : Size) × (get old k ≡ Some z) × Carries places (rectangle k z) (rectangle b t) × HasArea (rectangle b t)) → In (rectangle a s) p → In (rectangle b t) p → a ≡ b
      meet a b p s t c d ha hb =
          let q = c.3.from p ha in
          let r = d.3.from p hb in
          let one = takes_one p q.0 r.0 q.2 r.2 in
          let anchor = (fits.each (rectangle c.0 c.1) c.2).alone (rectangle d.0 d.1) q.0 d.2 q.1 (subst (λ x. In (rectangle d.0 d.1) x) (sym one) r.1) in
          let size = same_Some _ _ (sym c.2 ∙ ap (get old) anchor ∙ d.2) in
          let other : Carries places (rectangle c.0 c.1) (rectangle b t) = subst (λ e. Carries places e (rectangle b t)) (ap₂ rectangle (sym anchor) (sym size)) d.3 in
          ap (λ (f : Rectangle). f.first) (carries_one (rectangle c.0 c.1) (rectangle a s) (rectangle b t) c.4 d.4 c.3 other)

  -- a map has one image
  pub image_one : (old new other : SpanMap) → IsImage places old new → IsImage places old other → new ≡ other
  image_one old new other is also = same_map new other (λ q. same q (get new q) refl (get other q) refl)
    where
      over : (m n : SpanMap) → IsImage places old m → IsImage places old n → (b : Position) (t : Size) → get m b ≡ Some t → get n b ≡ Some t
      over m n i j b t h = let c = i.comes b t h in j.goes c.0 b c.1 t c.2 c.3 c.4

      same : (b : Position) (x : Option Size) → get new b ≡ x → (y : Option Size) → get other b ≡ y → get new b ≡ get other b
      same b (Some t) h y k = h ∙ sym (over new other is also b t h)
      same b None h (Some t) k = over other new also is b t k ∙ sym k
      same b None h None k = h ∙ sym k

  -- the test of an old place
  passed : (test : Position → Bool) (o : Option Position) → old_place_passes test o ≡ true → (q : Position) × (o ≡ Some q) × (test q ≡ true)
  passed test None h = cc
  passed test (Some q) h = (q, refl, h)

  passed-from : (test : Position → Bool) (o : Option Position) (q : Position) → o ≡ Some q → test q ≡ true → old_place_passes test o ≡ true
  passed-from test o q is h = ap (old_place_passes test) is ∙ h

  alike-true : (a b : Bool) → alike a b ≡ true → a ≡ b
  alike-true true b h = sym h
  alike-true false true h = cc
  alike-true false false h = refl

  alike-from : (a b : Bool) → (a ≡ true → b ≡ true) → (b ≡ true → a ≡ true) → alike a b ≡ true
  alike-from true b to back = to refl
  alike-from false true to back = back refl
  alike-from false false to back = refl

  pub cell_in : (f : Rectangle) (p : Position) → Member p (cells_in f) → In f p
  cell_in f p m = let h = block-member _ _ _ _ p m in record { top = h.top; bottom = h.bottom; left = h.left; right = h.right }

  pub cell_from : (f : Rectangle) (p : Position) → In f p → Member p (cells_in f)
  cell_from f p h = block-from _ _ _ _ p (record { top = h.top; bottom = h.bottom; left = h.left; right = h.right })

  -- the test says what the record says
  carries-true : (e f : Rectangle) → (f.first.row + f.size.height ≤ places.size.height) × (f.first.col + f.size.width ≤ places.size.width) → carries places e f ≡ true → Carries places e f
  carries-true e f inside h = record { all = all; only = only; from = from }
    where
      new : Position → Bool
      new p = alike (old_place_passes (holds e) (places.old_place p)) (holds f p)

      has : Position → Bool
      has q = list_any (λ (p : Position). old_place_passes (same_place q) (places.old_place p)) (cells_in f)

      parts : (list_all new (block 0 places.size.height 0 places.size.width) ≡ true) × (list_all has (cells_in e) ≡ true)
      parts = and_parts (list_all new (block 0 places.size.height 0 places.size.width)) (list_all has (cells_in e)) h

      all : (q : Position) → In e q → (p : Position) × Takes places p q
      all q i =
          let there = all-member has q (cells_in e) parts.1 (cell_from e q i) in
          let m = any-member (λ (p : Position). old_place_passes (same_place q) (places.old_place p)) (cells_in f) there in
          let c = cell_in f m.0 m.1 in
          let o = passed (same_place q) (places.old_place m.0) m.2 in
          (m.0, record { row = omega (arith, c.bottom, inside.0); col = omega (arith, c.right, inside.1); from = o.1 ∙ ap Some (sym (same_place-true q o.0 o.2)) })

      only : (p q : Position) → Takes places p q → In e q → In f p
      only p q t i =
          let m = block-from 0 places.size.height 0 places.size.width p (record { top = omega arith; bottom = t.row; left = omega arith; right = t.col }) in
          let same = alike-true _ _ (all-member new p (block 0 places.size.height 0 places.size.width) parts.0 m) in
          holds-true f p (sym same ∙ passed-from (holds e) (places.old_place p) q t.from (holds-from e q i))

      from : (p : Position) → In f p → (q : Position) × In e q × Takes places p q
      from p i =
          let row : p.row < places.size.height = omega (arith, i.bottom, inside.0) in
          let col : p.col < places.size.width = omega (arith, i.right, inside.1) in
          let m = block-from 0 places.size.height 0 places.size.width p (record { top = omega arith; bottom = row; left = omega arith; right = col }) in
          let same = alike-true _ _ (all-member new p (block 0 places.size.height 0 places.size.width) parts.0 m) in
          let o = passed (holds e) (places.old_place p) (same ∙ holds-from f p i) in
          (o.0, holds-true e o.0 o.2, record { row = row; col = col; from = o.1 })

  carries-from : (e f : Rectangle) → Carries places e f → carries places e f ≡ true
  carries-from e f c = and_from _ _ (all-from new (block 0 places.size.height 0 places.size.width) just) (all-from has (cells_in e) each)
    where
      new : Position → Bool
      new p = alike (old_place_passes (holds e) (places.old_place p)) (holds f p)

      has : Position → Bool
      has q = list_any (λ (p : Position). old_place_passes (same_place q) (places.old_place p)) (cells_in f)

      just : (p : Position) → Member p (block 0 places.size.height 0 places.size.width) → new p ≡ true
      just p m =
          let b = block-member 0 places.size.height 0 places.size.width p m in
          alike-from _ _
          (λ h. let o = passed (holds e) (places.old_place p) h in holds-from f p (c.only p o.0 (record { row = b.bottom; col = b.right; from = o.1 }) (holds-true e o.0 o.2)))
          (λ h. let t = c.from p (holds-true f p h) in passed-from (holds e) (places.old_place p) t.0 t.2.from (holds-from e t.0 t.1))

      each : (q : Position) → Member q (cells_in e) → has q ≡ true
      each q m =
          let i = cell_in e q m in
          let t = c.all q i in
          any-from (λ (p : Position). old_place_passes (same_place q) (places.old_place p)) t.0 (cells_in f) (cell_from f t.0 (c.only t.0 q t.1 i)) (passed-from (same_place q) (places.old_place t.0) q t.1.from (same_place-self q))

  -- the rectangles inside a table
  rectangle-member : (f : Rectangle) → Member f (rectangles_inside places.size.height places.size.width) → HasArea f × (f.first.row + f.size.height ≤ places.size.height) × (f.first.col + f.size.width ≤ places.size.width)
  rectangle-member f m = grind (arith, common_steps, flat_map-member, map-member, block-member)

  rectangle-from : (f : Rectangle) → HasArea f → f.first.row + f.size.height ≤ places.size.height → f.first.col + f.size.width ≤ places.size.width → Member f (rectangles_inside places.size.height places.size.width)
  rectangle-from f full tall wide =
      let height : f.size.height - 1 + 1 ≡ f.size.height = omega (arith, full.height) in
      let width : f.size.width - 1 + 1 ≡ f.size.width = omega (arith, full.width) in
      let within : Member f.first (block 0 places.size.height 0 places.size.width) = block-from 0 places.size.height 0 places.size.width f.first (record { top = omega arith; bottom = omega (arith, full.height, tall); left = omega arith; right = omega (arith, full.width, wide) }) in
      let last : Member (place (f.size.height - 1) (f.size.width - 1)) (block 0 (places.size.height - f.first.row) 0 (places.size.width - f.first.col)) = block-from 0 (places.size.height - f.first.row) 0 (places.size.width - f.first.col) (place (f.size.height - 1) (f.size.width - 1)) (record { top = omega arith; bottom = omega (arith, full.height, tall); left = omega arith; right = omega (arith, full.width, wide) }) in
      let made = map-from (λ (last : Position). rectangle f.first (sized (last.row + 1) (last.col + 1))) (place (f.size.height - 1) (f.size.width - 1)) (block 0 (places.size.height - f.first.row) 0 (places.size.width - f.first.col)) last in
      let f' : Rectangle = rectangle f.first (sized (f.size.height - 1 + 1) (f.size.width - 1 + 1)) in
      let same : f' ≡ f = ap₂ (λ h w. rectangle f.first (sized h w)) height width in
      flat_map-from (λ (p : Position). map (λ (last : Position). rectangle p (sized (last.row + 1) (last.col + 1))) (block 0 (places.size.height - p.row) 0 (places.size.width - p.col))) f.first f (block 0 places.size.height 0 places.size.width) within
      (subst (λ g. Member g (map (λ (last : Position). rectangle f.first (sized (last.row + 1) (last.col + 1))) (block 0 (places.size.height - f.first.row) 0 (places.size.width - f.first.col)))) same made)

  -- the defined map is the image, where rectangles share no cell
  pub image_is : (m : SpanMap) (rows columns : ℕ) → Fits m rows columns → IsImage places m (image places m)
  image_is m rows columns fits = record { comes = comes; goes = goes }
    where
      test : Rectangle → Bool
      test f = list_any (λ (e : Rectangle). carries places e f) (rectangles m)

      of_member : (b : Position) (t : Size) → Member (rectangle b t) (images places (rectangles m)) → (a : Position) × (s : Size) × (get m a ≡ Some s) × Carries places (rectangle a s) (rectangle b t) × HasArea (rectangle b t)
      of_member b t h =
          let parts = filter-member test (rectangle b t) (rectangles_inside places.size.height places.size.width) h in
          let room = rectangle-member (rectangle b t) parts.0 in
          let e = any-member (λ (e : Rectangle). carries places e (rectangle b t)) (rectangles m) parts.1 in
          let here = sorted-find (rectangles m) e.0 (rectangles_sorted m) e.1 in
          (e.0.first, e.0.size, get-rectangles m e.0.first ∙ here, carries-true e.0 (rectangle b t) (room.1, room.2) e.2, room.0)

      -- so each is of more than one cell
      got-image : (b : Position) → get (image places m) b ≡ find_at b (images places (rectangles m))
      got-image b = get-from_rectangles (images places (rectangles m)) b (sizes_of (images places (rectangles m)) (λ f h. let c = of_member f.first f.size h in carries_more (rectangle c.0 c.1) f c.4 c.3 (span_at m c.0 c.1 c.2)))

      comes : (b : Position) (t : Size) → get (image places m) b ≡ Some t → (a : Position) × (s : Size) × (get m a ≡ Some s) × Carries places (rectangle a s) (rectangle b t) × HasArea (rectangle b t)
      comes b t h = of_member b t (find-member (images places (rectangles m)) b t (sym (got-image b) ∙ h))

      goes : (a b : Position) (s t : Size) → get m a ≡ Some s → Carries places (rectangle a s) (rectangle b t) → HasArea (rectangle b t) → get (image places m) b ≡ Some t
      goes a b s t has c full =
          let l = last_in (rectangle b t) full in
          let end = (c.from (last_of (rectangle b t)) l).2 in
          let inside = rectangle-from (rectangle b t) full (omega (arith, end.row, full.height)) (omega (arith, end.col, full.width)) in
          let entry = find-member (rectangles m) a s (sym (get-rectangles m a) ∙ has) in
          let member = filter-from test (rectangle b t) (rectangles_inside places.size.height places.size.width) inside (any-from (λ (e : Rectangle). carries places e (rectangle b t)) (rectangle a s) (rectangles m) entry (carries-from (rectangle a s) (rectangle b t) c)) in
          let found = member-find (images places (rectangles m)) (rectangle b t) member in
          let got = got-image b ∙ found.1 in
          let d = comes b found.0 got in
          let q = c.from b (first_in (rectangle b t) full) in
          let r = d.3.from b (first_in (rectangle b found.0) d.4) in
          let one = takes_one b q.0 r.0 q.2 r.2 in
          let anchor = (fits.each (rectangle a s) has).alone (rectangle d.0 d.1) q.0 d.2 q.1 (subst (λ x. In (rectangle d.0 d.1) x) (sym one) r.1) in
          let size = same_Some _ _ (sym has ∙ ap (get m) anchor ∙ d.2) in
          let other : Carries places (rectangle a s) (rectangle b found.0) = subst (λ e. Carries places e (rectangle b found.0)) (ap₂ rectangle (sym anchor) (sym size)) d.3 in
          got ∙ ap (λ (f : Rectangle). Some f.size) (carries_one (rectangle a s) (rectangle b found.0) (rectangle b t) d.4 full other c)
