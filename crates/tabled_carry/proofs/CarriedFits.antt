-- What is carried along fits the new table.
use Rattle.tabled_carry.proofs.Common.{[], ◌∙◌, ◌∷◌, ◌≡◌, Carries, Fits, HasArea, In, KeepsPlaces, List, Places, Position, Rectangle, Size, Some, SpanMap, Takes, ap, arith, carried, empty, empty-is, false, filter, fitting, from_rectangles, get, images, keep_fitting, keep_fitting-fits, map_of, map_of-rectangles, rectangle, rectangles, rectangles-map_of, rectangles_inside, refl, span_at, subst, sym, ℕ}
use Rattle.tabled_carry.proofs.RectanglesCarried.{carries_one, image_fits, image_is, image_one}

no_images : (fs : List Rectangle) → filter (λ (f : Rectangle). false) fs ≡ []
no_images [] = refl
no_images (f ∷ fs) = no_images fs

-- where nothing is merged, nothing is carried
pub carried-none : (places : Places) (rows columns : ℕ) (m : SpanMap) → rectangles m ≡ [] → carried places rows columns m ≡ m
carried-none places rows columns m none =
    let kept : rectangles (keep_fitting rows columns m) ≡ [] = ap (λ (es : List Rectangle). rectangles (map_of (fitting rows columns es))) none ∙ rectangles-map_of [] (record { sorted = tt; sizes = tt }) in
    let gone : carried places rows columns m ≡ empty = ap (λ (es : List Rectangle). from_rectangles (images places es)) kept ∙ ap from_rectangles (no_images (rectangles_inside places.size.height places.size.width)) in
    gone ∙ empty-is ∙ ap map_of (sym none) ∙ map_of-rectangles m

-- what is carried along fits the new table, whatever the map of places
pub carried-fits : (places : Places) (rows columns : ℕ) (m : SpanMap) → Fits (carried places rows columns m) places.size.height places.size.width
carried-fits places rows columns m =
    let kept = keep_fitting-fits rows columns m in
    image_fits places (keep_fitting rows columns m) (carried places rows columns m) rows columns (image_is places (keep_fitting rows columns m) rows columns kept) kept

-- where cells keep their places, so does what fits
pub carried-stays : (places : Places) (rows columns : ℕ) (m : SpanMap) → KeepsPlaces places rows columns → carried places rows columns m ≡ keep_fitting rows columns m
carried-stays places rows columns m keeps =
    image_one places kept (carried places rows columns m) kept (image_is places kept rows columns fits) (record { comes = comes; goes = goes })
  where
    kept : SpanMap
    kept = keep_fitting rows columns m

    fits : Fits kept rows columns
    fits = keep_fitting-fits rows columns m

    full : (a : Position) (s : Size) → get kept a ≡ Some s → HasArea (rectangle a s)
    full a s h = let size = span_at kept a s h in record { height = size.height; width = size.width }

    stays : (a : Position) (s : Size) → get kept a ≡ Some s → Carries places (rectangle a s) (rectangle a s)
    stays a s h =
        let inside = (fits.each (rectangle a s) h).inside in
        let takes : (p : Position) → In (rectangle a s) p → Takes places p p = λ p i. keeps.stays p (omega (arith, i.bottom, inside.bottom)) (omega (arith, i.right, inside.right)) in
        record { all = λ p i. (p, takes p i); only = λ p q t i. subst (λ (x : Position). In (rectangle a s) x) (sym (keeps.alone p q t)) i; from = λ p i. (p, i, takes p i) }

    comes : (b : Position) (t : Size) → get kept b ≡ Some t → (a : Position) × (s : Size) × (get kept a ≡ Some s) × Carries places (rectangle a s) (rectangle b t) × HasArea (rectangle b t)
    comes b t h = (b, t, h, stays b t h, full b t h)

    goes : (a b : Position) (s t : Size) → get kept a ≡ Some s → Carries places (rectangle a s) (rectangle b t) → HasArea (rectangle b t) → get kept b ≡ Some t
    goes a b s t h c whole = subst (λ (e : Rectangle). get kept e.first ≡ Some e.size) (carries_one places (rectangle a s) (rectangle a s) (rectangle b t) (full a s h) whole (stays a s h) c) h
