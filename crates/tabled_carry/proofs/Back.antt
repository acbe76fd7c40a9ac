-- A map of places and one that leads back.
use Rattle.tabled_carry.proofs.Common.{◌∙◌, ◌≡◌, Carries, CarriesAll, Fits, HasArea, In, IsImage, LeadsBack, Places, Position, Rectangle, Size, Some, SpanMap, ap, carried, get, image, keep_fitting-all, rectangle, span_at, subst, ℕ}
use Rattle.tabled_carry.proofs.RectanglesCarried.{carries_one, image_fits, image_is, image_one, takes_one}

module _ (there back : Places) (leads : LeadsBack there back) where
  -- a rectangle that is carried is carried back
  carries_back : (e f : Rectangle) → Carries there e f → Carries back f e
  carries_back e f c = record {
    all = λ p h. let t = c.from p h in (t.0, leads.to p t.0 t.2);
    only = λ q p t h. let u = c.from p h in subst (λ (x : Position). In e x) (takes_one there p u.0 q u.2 (leads.from p q t)) u.1;
    from = λ q h. let t = c.all q h in (t.0, c.only t.0 q t.1 h, leads.to t.0 q t.1);
  }

  -- where each rectangle is carried, the image leads back to the map
  pub image_back : (m n : SpanMap) → IsImage there m n → CarriesAll there m → IsImage back n m
  image_back m n is all = record { comes = comes; goes = goes }
    where
      full : (a : Position) (s : Size) → get m a ≡ Some s → HasArea (rectangle a s)
      full a s h = let size = span_at m a s h in record { height = size.height; width = size.width }

      comes : (a : Position) (s : Size) → get m a ≡ Some s → (b : Position) × (t : Size) × (get n b ≡ Some t) × Carries back (rectangle b t) (rectangle a s) × HasArea (rectangle a s)
      comes a s h = let f = all.each a s h in (f.0.first, f.0.size, is.goes a f.0.first s f.0.size h f.1 f.2, carries_back (rectangle a s) f.0 f.1, full a s h)

      goes : (b a : Position) (t s : Size) → get n b ≡ Some t → Carries back (rectangle b t) (rectangle a s) → HasArea (rectangle a s) → get m a ≡ Some s
      goes b a t s h c whole =
          let o = is.comes b t h in
          let one = carries_one back (rectangle b t) (rectangle o.0 o.1) (rectangle a s) (full o.0 o.1 o.2) whole (carries_back (rectangle o.0 o.1) (rectangle b t) o.3) c in
          subst (λ (e : Rectangle). get m e.first ≡ Some e.size) one o.2

  -- so the image of the image is the map
  pub image_twice : (m : SpanMap) (rows columns : ℕ) → Fits m rows columns → CarriesAll there m → image back (image there m) ≡ m
  image_twice m rows columns fits all =
      let is = image_is there m rows columns fits in
      image_one back (image there m) (image back (image there m)) m (image_is back (image there m) there.size.height there.size.width (image_fits there m (image there m) rows columns is fits)) (image_back m (image there m) is all)

  -- and what fits is carried there and back
  pub carried_back : (m : SpanMap) (rows columns : ℕ) → Fits m rows columns → CarriesAll there m → carried back there.size.height there.size.width (carried there rows columns m) ≡ m
  carried_back m rows columns fits all =
      let turn : carried there rows columns m ≡ image there m = ap (image there) (keep_fitting-all rows columns m fits) in
      let fitting = image_fits there m (image there m) rows columns (image_is there m rows columns fits) fits in
      ap (carried back there.size.height there.size.width) turn
      ∙ ap (image back) (keep_fitting-all there.size.height there.size.width (image there m) fitting)
      ∙ image_twice m rows columns fits all
