-- Rectangles given by a size at each place, and what holds in the middle of a span option.
use Rattle.tabled_grid.proofs.Common.{◌+◌, ◌<◌, ◌∙◌, ◌≡◌, ◌≢◌, ◌≤◌, ◌⊎◌, In, Position, Rectangle, Size, ap, arith, cases_eq, cases_lt, common_steps, inl, inr, inside, place, rectangle, sized, subst, sym, ℕ}
pub use Rattle.tabled_grid.specs.Midway.{Flat, Hooked, Narrow, Sizes, LieWithin}

-- no rectangle is empty
pub record Full (s : Sizes) : Type 0 where
  pub height : (a : Position) → 1 ≤ (s a).height
  pub width : (a : Position) → 1 ≤ (s a).width

-- no other rectangle holds the place
abbrev pub Visible : Sizes → Position → Type 0
Visible s p = (a : Position) → In (rectangle a (s a)) p → a ≡ p

-- a width at a place, and all else as it was
pub record Widened (s t : Sizes) (p : Position) (w : ℕ) : Type 0 where
  pub here : t p ≡ sized (s p).height w
  pub others : (q : Position) → q ≢ p → t q ≡ s q

pub cases_place : (a b : Position) → (a ≡ b) ⊎ (a ≢ b)
cases_place a b = grind (arith, common_steps, cases_eq)

module _ (s : Sizes) (p : Position) (w : ℕ) (full : Full s) (hooked : Hooked s) (visible : (k : ℕ) → p.col ≤ k → k < p.col + w → Visible s (place p.row k)) where
  -- another rectangle that meets the widened one begins in it: not above it
  not_above : (b q : Position) → b ≢ p → In (rectangle p (sized (s p).height w)) q → In (rectangle b (s b)) q → b.row < p.row → ⊥
  not_above b q apart new old above = at (cases_lt b.col p.col)
    where
      at : (b.col < p.col) ⊎ (p.col ≤ b.col) → ⊥
      at (inl left) =
          let same = visible p.col (omega arith) (omega (arith, new.left, new.right)) b (record { top = omega arith; bottom = omega (arith, new.top, old.bottom); left = omega arith; right = omega (arith, new.left, old.right) }) in
          omega (arith, ap (λ (x : Position). x.row) same)
      at (inr right) =
          let same = visible b.col right (omega (arith, old.left, new.right)) b (record { top = omega arith; bottom = omega (arith, new.top, old.bottom); left = omega arith; right = omega (arith, full.width b) }) in
          omega (arith, ap (λ (x : Position). x.row) same)

  -- and not left of it
  not_left : (b q : Position) → b ≢ p → In (rectangle p (sized (s p).height w)) q → In (rectangle b (s b)) q → p.row ≤ b.row → b.col < p.col → ⊥
  not_left b q apart new old below left = at (cases_lt p.row b.row)
    where
      crossing : p.row < b.row → In (rectangle p (s p)) (place b.row p.col)
      crossing under = record { top = omega arith; bottom = omega (arith, old.top, new.bottom); left = omega arith; right = omega (arith, full.width p) }

      crossed : In (rectangle b (s b)) (place b.row p.col)
      crossed = record { top = omega arith; bottom = omega (arith, full.height b); left = omega arith; right = omega (arith, new.left, old.right) }

      hooks : p.row < b.row → In (rectangle p (s p)) b ⊎ In (rectangle b (s b)) p → ⊥
      hooks under (inl h) = omega (arith, h.left)
      hooks under (inr h) = omega (arith, h.top)

      at : (p.row < b.row) ⊎ (b.row ≤ p.row) → ⊥
      at (inl under) = hooks under (hooked.hook p b (place b.row p.col) (crossing under) crossed)
      at (inr beside) =
          let same = visible p.col (omega arith) (omega (arith, new.left, new.right)) b (record { top = omega arith; bottom = omega (arith, full.height b); left = omega arith; right = omega (arith, new.left, old.right) }) in
          omega (arith, ap (λ (x : Position). x.col) same)

  begins_in : (b q : Position) → b ≢ p → In (rectangle p (sized (s p).height w)) q → In (rectangle b (s b)) q → In (rectangle p (sized (s p).height w)) b
  begins_in b q apart new old = beside (cases_lt b.row p.row) (cases_lt b.col p.col)
    where
      beside : (b.row < p.row) ⊎ (p.row ≤ b.row) → (b.col < p.col) ⊎ (p.col ≤ b.col) → In (rectangle p (sized (s p).height w)) b
      beside (inl above) c = absurd (not_above b q apart new old above)
      beside (inr below) (inl left) = absurd (not_left b q apart new old below left)
      beside (inr below) (inr right) = record { top = below; bottom = omega (arith, old.top, new.bottom); left = right; right = omega (arith, old.left, new.right) }

  pub hooked_widened : (t : Sizes) → Widened s t p w → Hooked t
  hooked_widened t is = record { hook = hook }
    where
      hook_at : (a b q : Position) → (a ≡ p) ⊎ (a ≢ p) → (b ≡ p) ⊎ (b ≢ p) → In (rectangle a (t a)) q → In (rectangle b (t b)) q → In (rectangle a (t a)) b ⊎ In (rectangle b (t b)) a
      hook_at a b q (inl e) (inl f) ha hb = inl (subst (λ (x : Position). In (rectangle a (t a)) x) (e ∙ sym f) (record { top = omega arith; bottom = omega (arith, ha.top, ha.bottom); left = omega arith; right = omega (arith, ha.left, ha.right) }))
      hook_at a b q (inl e) (inr n) ha hb =
          let new = subst (λ (x : Position). In (rectangle x (t x)) q) e ha in
          let inside = begins_in b q n (rw is.here at new) (rw (is.others b n) at hb) in
          inl (subst (λ (x : Position). In (rectangle x (t x)) b) (sym e) (rw is.here inside))
      hook_at a b q (inr n) (inl f) ha hb =
          let new = subst (λ (x : Position). In (rectangle x (t x)) q) f hb in
          let inside = begins_in a q n (rw is.here at new) (rw (is.others a n) at ha) in
          inr (subst (λ (x : Position). In (rectangle x (t x)) a) (sym f) (rw is.here inside))
      hook_at a b q (inr n) (inr k) ha hb = rw (is.others a n, is.others b k) (hooked.hook a b q (rw (is.others a n) at ha) (rw (is.others b k) at hb))

      hook : (a b q : Position) → In (rectangle a (t a)) q → In (rectangle b (t b)) q → In (rectangle a (t a)) b ⊎ In (rectangle b (t b)) a
      hook a b q = hook_at a b q (cases_place a p) (cases_place b p)

-- the place, with rows and columns exchanged
abbrev pub flip : Position → Position
flip p = place p.col p.row

-- the size, with height and width exchanged
abbrev pub flip_size : Size → Size
flip_size size = sized size.width size.height

-- the sizes, with rows and columns exchanged
abbrev pub flipped : Sizes → Sizes
flipped s p = flip_size (s (flip p))

pub In-flip : (e : Rectangle) (p : Position) → In e p → In (rectangle (flip e.first) (flip_size e.size)) (flip p)
In-flip e p i = record { top = i.left; bottom = i.right; left = i.top; right = i.bottom }

pub hooked_flipped : (s : Sizes) → Hooked s → Hooked (flipped s)
hooked_flipped s hooked = record { hook = λ a b p ha hb. back a b (hooked.hook (flip a) (flip b) (flip p) (In-flip _ p ha) (In-flip _ p hb)) }
  where
    back : (a b : Position) → In (rectangle (flip a) (s (flip a))) (flip b) ⊎ In (rectangle (flip b) (s (flip b))) (flip a) → In (rectangle a (flipped s a)) b ⊎ In (rectangle b (flipped s b)) a
    back a b (inl h) = inl (In-flip _ (flip b) h)
    back a b (inr h) = inr (In-flip _ (flip a) h)

pub full_flipped : (s : Sizes) → Full s → Full (flipped s)
full_flipped s full = record { height = λ a. full.width (flip a); width = λ a. full.height (flip a) }

pub swap_cases : {P Q : Type 0} → P ⊎ Q → Q ⊎ P
swap_cases (inl p) = inr p
swap_cases (inr q) = inl q

pub within_flipped : (s : Sizes) (rows columns : ℕ) → LieWithin s rows columns → LieWithin (flipped s) columns rows
within_flipped s rows columns within = record { tall = λ a h. within.wide (flip a) (swap_cases h); wide = λ a h. within.tall (flip a) (swap_cases h) }

pub visible_flipped : (s : Sizes) (p : Position) → Visible s p → Visible (flipped s) (flip p)
visible_flipped s p visible a h = ap flip (visible (flip a) (In-flip _ (flip p) h))

-- where all heights are 1, rectangles are hooked
pub hooked_flat : (s : Sizes) → Full s → Flat s → Hooked s
hooked_flat s full flat = grind (arith, common_steps, cases_lt)

-- a width that fits keeps rectangles inside
pub within_widened : (s t : Sizes) (p : Position) (w rows columns : ℕ) → Widened s t p w → 1 ≤ w → p.row < rows → p.col + w ≤ columns → LieWithin s rows columns → LieWithin t rows columns
within_widened s t p w rows columns is positive inside fits within = grind (arith, common_steps, cases_place, cases_lt)

pub flat_widened : (s t : Sizes) (p : Position) (w : ℕ) → Widened s t p w → Flat s → Flat t
flat_widened s t p w is flat = grind (arith, common_steps, cases_place)

pub narrow_flipped : (s : Sizes) → Narrow s → Flat (flipped s)
narrow_flipped s narrow = record { height = λ a. narrow.width (flip a) }

pub flat_flipped : (s : Sizes) → Flat (flipped s) → Narrow s
flat_flipped s flat = record { width = λ a. flat.height (flip a) }
