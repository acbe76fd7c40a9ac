-- A list of the images of rectangles, as it grows and once it is sorted.
use Rattle.tabled_carry.proofs.Common.{[], ◌&&◌, ◌++◌, ◌+◌, ◌<◌, ◌==◌, ◌∙◌, ◌∷◌, ◌≡◌, ◌≤◌, ◌⊎◌, AreAnchors, AreSorted, Bool, Carries, Equal, Fits, FitsAmong, Greater, HasArea, In, IsImage, IsPermutation, IsSortedByKey, Less, LiesInside, List, Member, Ordering, Places, Position, Rectangle, Size, Some, T, add-one, and_from, and_parts, any-from, any-member, ap, ap₂, arith, before_other, below-member, carries, cases_Bool, common_steps, cond, before-less, eq-eqb, eqb-true, false, find-member, get, get-map_of, get_or, halves, holds-from, image, inl, inr, is_lt, length, list_any, list_any-IsPermutation, map_of, member-either, member-left, member-right, ordering_reverse, position_cmp, positions_exact, positions_total, rectangle, refl, same_place, same_place-self, same_place-true, sized, sorted-find, subst, suc, sum_by, sum_by-IsPermutation, sym, take, take_more, true, zero, ℕ, span_at}
use Rattle.std.proofs.lemmas.List.Sums.{sum_by-append, sum_by-cons}
use Rattle.tabled_grid.proofs.MergedAnchors.{below_more}
use Rattle.tabled_carry.proofs.RectanglesCarried.{carries_more, first_in, image_is, image_one, takes_one, carries_one, sizes_of}
use Rattle.tabled_grid.proofs.Members.{member-moved}
use Rattle.tabled_grid.proofs.SortedEntries.{both, is_less}
use Rattle.std.proofs.lemmas.List.Sorted.{IsPermutation-sym}

-- how many of an anchor are at a place
abbrev pub at_place : Position → Rectangle → ℕ
at_place q f = cond (same_place q f.first) 1 0

-- the images of some rectangles, each anchor once
pub record Images (places : Places) (done images : List Rectangle) : Type 0 where
  pub comes : (f : Rectangle) → Member f images → (e : Rectangle) × Member e done × Carries places e f × HasArea f
  pub goes : (e f : Rectangle) → Member e done → Carries places e f → HasArea f → Member f images
  pub once : (q : Position) → sum_by (at_place q) images ≤ 1

-- none is at a place where none is anchored
none_at : (q : Position) (fs : List Rectangle) → ((f : Rectangle) → Member f fs → q ≡ f.first → ⊥) → sum_by (at_place q) fs ≡ 0
none_at q [] apart = refl
none_at q (f ∷ fs) apart = sum_by-cons (at_place q) f fs ∙ ap₂ (λ a b. a + b) (first (cases_Bool (same_place q f.first))) (none_at q fs (λ g m. apart g (inr m)))
  where
    first : (same_place q f.first ≡ true) ⊎ (same_place q f.first ≡ false) → at_place q f ≡ 0
    first (inl t) = absurd (apart f (inl refl) (same_place-true q f.first t))
    first (inr h) = ap (λ b. cond b 1 0) h

-- a list of one has that one alone
only : (x y : Rectangle) → Member x (y ∷ []) → x ≡ y
only x y (inl same) = same
only x y (inr none) = absurd none

at_here : (f : Rectangle) → at_place f.first f ≡ 1
at_here f = ap (λ b. cond b 1 0) (same_place-self f.first)

module _ (places : Places) (done images : List Rectangle) (e : Rectangle) where
  -- a rectangle more, with its image
  pub images-more : (f : Rectangle) → Images places done images → Carries places e f → HasArea f → ((g : Rectangle) → Carries places e g → HasArea g → f ≡ g) → ((g : Rectangle) → Member g images → f.first ≡ g.first → ⊥) → Images places (done ++ e ∷ []) (images ++ f ∷ [])
  images-more f i carries full one apart = record { comes = comes; goes = goes; once = once }
    where
      comes : (g : Rectangle) → Member g (images ++ f ∷ []) → (d : Rectangle) × Member d (done ++ e ∷ []) × Carries places d g × HasArea g
      comes g m = elim (member-either g images (f ∷ []) m) [
        | inl h ↦ let c = i.comes g h in (c.0, member-left c.0 done (e ∷ []) c.1, c.2, c.3)
        | inr last ↦ let same = only g f last in (e, member-right e done (e ∷ []) (inl refl), subst (λ x. Carries places e x) (sym same) carries, subst HasArea (sym same) full)
      ]

      goes : (d g : Rectangle) → Member d (done ++ e ∷ []) → Carries places d g → HasArea g → Member g (images ++ f ∷ [])
      goes d g m c h = elim (member-either d done (e ∷ []) m) [
        | inl old ↦ member-left g images (f ∷ []) (i.goes d g old c h)
        | inr last ↦ member-right g images (f ∷ []) (inl (sym (one g (subst (λ x. Carries places x g) (only d e last) c) h)))
      ]

      once : (q : Position) → sum_by (at_place q) (images ++ f ∷ []) ≤ 1
      once q =
          let sum = sum_by-append (at_place q) images (f ∷ []) in
          let more : sum_by (at_place q) (f ∷ []) ≡ at_place q f + 0 = sum_by-cons (at_place q) f [] in
          elim (cases_Bool (same_place q f.first)) [
            | inl t ↦
                let at = same_place-true q f.first t in
                let zero_before = none_at q images (λ g m same. apart g m (sym at ∙ same)) in
                let last : at_place q f ≡ 1 = ap (λ b. cond b 1 0) t in
                omega (arith, sum, more, zero_before, last)
            | inr h ↦ let last : at_place q f ≡ 0 = ap (λ b. cond b 1 0) h in omega (arith, sum, more, last, i.once q)
          ]

  -- a rectangle more, which has none
  pub images-none : Images places done images → ((g : Rectangle) → Carries places e g → HasArea g → ⊥) → Images places (done ++ e ∷ []) images
  images-none i none = record { comes = λ g m. let c = i.comes g m in (c.0, member-left c.0 done (e ∷ []) c.1, c.2, c.3); goes = goes; once = i.once }
    where
      goes : (d g : Rectangle) → Member d (done ++ e ∷ []) → Carries places d g → HasArea g → Member g images
      goes d g m c h = elim (member-either d done (e ∷ []) m) [ inl old ↦ i.goes d g old c h | inr last ↦ absurd (none g (subst (λ x. Carries places x g) (only d e last) c) h) ]

pub images-sorted : (places : Places) (done xs ys : List Rectangle) → IsPermutation xs ys → Images places done xs → Images places done ys
images-sorted places done xs ys p i = record {
  comes = λ f m. i.comes f (member-moved f ys xs (IsPermutation-sym xs ys p) m);
  goes = λ e f m c h. member-moved f xs ys p (i.goes e f m c h);
  once = λ q. let same = sum_by-IsPermutation (at_place q) xs ys p in omega (arith, same, i.once q);
}

-- anchors that do not fall, each once, rise
pub rising : (ys : List Rectangle) → ((k : ℕ) (d : Rectangle) → k + 1 < length ys → is_lt (position_cmp (get_or ys (suc k) d).first (get_or ys k d).first) ≡ false) → ((q : Position) → sum_by (at_place q) ys ≤ 1) → AreSorted ys
rising [] up once = tt
rising (e ∷ []) up once = tt
rising (e ∷ f ∷ es) up once = compared (position_cmp e.first f.first) refl (rising (f ∷ es) (λ k d h. up (suc k) d (omega arith)) (λ q. omega (arith, once q, sum_by-cons (at_place q) e (f ∷ es))))
  where
    compared : (o : Ordering) → position_cmp e.first f.first ≡ o → AreSorted (f ∷ es) → AreSorted (e ∷ f ∷ es)
    compared Less is rest = both _ _ (both _ _ (is_less _ is) (below_more e.first f.first es is (halves _ _ rest).0)) rest
    compared Equal is rest =
        let same = positions_exact e.first f.first is in
        let two : at_place f.first e ≡ 1 = subst (λ p. at_place p e ≡ 1) same (at_here e) in
        absurd (omega (arith, once f.first, sum_by-cons (at_place f.first) e (f ∷ es), sum_by-cons (at_place f.first) f es, two, at_here f))
    compared Greater is rest =
        let falls : position_cmp f.first e.first ≡ Less = positions_total.antisymm f.first e.first ∙ ap ordering_reverse is in
        let never : true ≡ false = sym (ap is_lt falls) ∙ up 0 e (omega arith) in cc

-- the images of all rectangles of a list, row by row, make the image of its map
module _ (places : Places) (es ys : List Rectangle) (rows columns : ℕ) (valid : AreAnchors es) (fits : Fits (map_of es) rows columns) (i : Images places es ys) (up : AreSorted ys) where
  has : (e : Rectangle) → Member e es → get (map_of es) e.first ≡ Some e.size
  has e m = get-map_of es e.first valid ∙ sorted-find es e valid.sorted m

  pub images-anchors : AreAnchors ys
  images-anchors = record { sorted = up; sizes = sizes_of ys (λ f m. let c = i.comes f m in carries_more places c.0 f c.3 c.2 (span_at (map_of es) c.0.first c.0.size (has c.0 c.1))) }

  is : IsImage places (map_of es) (map_of ys)
  is = record { comes = comes; goes = goes }
    where
      comes : (b : Position) (t : Size) → get (map_of ys) b ≡ Some t → (a : Position) × (s : Size) × (get (map_of es) a ≡ Some s) × Carries places (rectangle a s) (rectangle b t) × HasArea (rectangle b t)
      comes b t h =
          let c = i.comes (rectangle b t) (find-member ys b t (sym (get-map_of ys b images-anchors) ∙ h)) in
          (c.0.first, c.0.size, has c.0 c.1, c.2, c.3)

      goes : (a b : Position) (s t : Size) → get (map_of es) a ≡ Some s → Carries places (rectangle a s) (rectangle b t) → HasArea (rectangle b t) → get (map_of ys) b ≡ Some t
      goes a b s t h c full =
          let m = find-member es a s (sym (get-map_of es a valid) ∙ h) in
          get-map_of ys b images-anchors ∙ sorted-find ys (rectangle b t) up (i.goes (rectangle a s) (rectangle b t) m c full)

  pub images-make : map_of ys ≡ image places (map_of es)
  images-make = image_one places (map_of es) (map_of ys) (image places (map_of es)) is (image_is places (map_of es) rows columns fits)

at-member : (es : List Rectangle) (i : ℕ) (d : Rectangle) → i < length es → Member (get_or es i d) es
at-member [] i d here = absurd (omega arith)
at-member (e ∷ es) zero d here = inl refl
at-member (e ∷ es) (suc i) d here = inr (at-member es i d (omega arith))

front-member : (e : Rectangle) (i : ℕ) (es : List Rectangle) → Member e (take i es) → Member e es
front-member e zero es none = absurd none
front-member e (suc i) [] none = absurd none
front-member e (suc i) (f ∷ es) (inl same) = inl same
front-member e (suc i) (f ∷ es) (inr m) = inr (front-member e i es m)

-- the anchors before an index come before the one there
front-before : (e : Rectangle) (i : ℕ) (es : List Rectangle) (d : Rectangle) → AreSorted es → i < length es → Member e (take i es) → position_cmp e.first (get_or es i d).first ≡ Less
front-before e zero es d up here none = absurd none
front-before e (suc i) [] d up here none = absurd none
front-before e (suc i) (f ∷ es) d up here (inl same) =
    let size : Rectangle = get_or es i d in
    let less_than : position_cmp f.first (get_or es i d).first ≡ Less = below-member f.first es size (halves _ _ up).0 (at-member es i d (omega arith)) in
    subst (λ (x : Rectangle). position_cmp x.first (get_or es i d).first ≡ Less) (sym same) less_than
front-before e (suc i) (f ∷ es) d up here (inr m) = front-before e i es d (halves _ _ up).1 (omega arith) m

-- the next rectangle of a list
module _ (places : Places) (es xs : List Rectangle) (i rows columns : ℕ) (d : Rectangle) (valid : AreAnchors es) (fits : Fits (map_of es) rows columns) (here : i < length es) where
  got : (e : Rectangle) → Member e es → get (map_of es) e.first ≡ Some e.size
  got e m = get-map_of es e.first valid ∙ sorted-find es e valid.sorted m

  next : Rectangle
  next = get_or es i d

  next-fits : FitsAmong (map_of es) rows columns (get_or es i d)
  next-fits = fits.each (get_or es i d) (got (get_or es i d) (at-member es i d here))

  pub next-inside : LiesInside rows columns (get_or es i d)
  next-inside = next-fits.inside

  pub next-some : (f : Rectangle) → Images places (take i es) xs → Carries places (get_or es i d) f → HasArea f → Images places (take (i + 1) es) (xs ++ f ∷ [])
  next-some f im c full =
      let is = images-more places (take i es) xs (get_or es i d) f im c full (λ g h k. carries_one places (get_or es i d) f g full k c h) apart in
      subst (λ (done : List Rectangle). Images places done (xs ++ f ∷ [])) (sym (take_more es i d here)) is
    where
      apart : (g : Rectangle) → Member g xs → f.first ≡ g.first → ⊥
      apart g m same =
          let o = im.comes g m in
          let q = c.from f.first (first_in f full) in
          let r = o.2.from f.first (subst (λ (p : Position). In g p) (sym same) (first_in g o.3)) in
          let one = takes_one places f.first q.0 r.0 q.2 r.2 in
          let anchor = next-fits.alone o.0 q.0 (got o.0 (front-member o.0 i es o.1)) q.1 (subst (λ (p : Position). In o.0 p) (sym one) r.1) in
          before_other o.0.first (get_or es i d).first (before-less _ _ (front-before o.0 i es d valid.sorted here o.1)) (sym anchor)

  pub next-none : Images places (take i es) xs → ((f : Rectangle) → Carries places (get_or es i d) f → HasArea f → ⊥) → Images places (take (i + 1) es) xs
  next-none im none = subst (λ (done : List Rectangle). Images places done xs) (sym (take_more es i d here)) (images-none places (take i es) xs (get_or es i d) im none)

-- sorted by their places, each once, they rise
pub rising-sorted : (places : Places) (es ys : List Rectangle) → IsSortedByKey (λ (f : Rectangle). f.first) position_cmp ys → Images places es ys → AreSorted ys
rising-sorted places es ys up im = rising ys (λ k d h. let P : ℕ → Type 0 = λ n. is_lt (position_cmp (get_or ys n d).first (get_or ys k d).first) ≡ false in subst P (add-one k) (up k d (omega arith) h)) im.once
