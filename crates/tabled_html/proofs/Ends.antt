-- How far down cells reach, from one place to the next.
use Rattle.std.proofs.Common.{nat_lt}
use Rattle.std.proofs.lemmas.Bool.Decides.{nat_tests}
use Rattle.tabled_grid.proofs.Common.{◌+◌, ◌&&◌, ◌<◌, ◌∙◌, ◌≡◌, ◌≤◌, ◌⊎◌, Bool, Fits, In, List, SpanMap, ap, ap₂, arith, cases_lt, cond, false, false_from_ne_true, get_or, inl, inr, is_hidden, le-ltb, length, lt-ltb, nat_le, place, rectangle, rectangles, refl, size_at, subst, sym, true, ℕ}
use Rattle.tabled_grid.proofs.Members.{Member, get-member}
use Rattle.tabled_grid.proofs.Owners.{AnchorsFit, anchors-fit, member-owner, owner-begins, owner-holds, owner-lies, owner-self, owner-shared}
use Rattle.tabled_grid.proofs.SpanMaps.{hidden_by}
use Rattle.tabled_grid.specs.Grid.{IsInside}
use Rattle.tabled_grid.specs.Owners.{owner_in}
use Rattle.tabled_grid.specs.Rectangles.{HasArea, LiesInside}
use Rattle.tabled_grid.specs.declared.config.position.Position.{Position}
use Rattle.tabled_grid.specs.declared.config.rectangle.Rectangle.{Rectangle}
use Rattle.tabled_grid.specs.declared.config.size.Size.{Size}
use Rattle.tabled_html.specs.Ends.{AreEnds}
use Rattle.tabled_html.specs.Laws.{own_area}
use Rattle.tabled_html.specs.Written.{Written}
use Rattle.tabled_html_reading.proofs.Slots.{before-here, before-in, before-next, before-row, before-same}
use Rattle.tabled_html_reading.specs.Areas.{begun, is_before}

before-up : (i j x y : ℕ) → is_before i j x y ≡ true → y ≤ i
before-up i j x y before = grind (arith, nat_tests)

in-run : (j w x : ℕ) → (nat_le j x && nat_lt x (j + w)) ≡ true → (j ≤ x) × (x < j + w)
in-run j w x t = grind (arith, nat_tests)

out-of-run : (j w x : ℕ) → j ≤ x → x < j + w → (nat_le j x && nat_lt x (j + w)) ≡ false → ⊥
out-of-run j w x left right f = grind (arith, nat_tests)

-- v is what a sheet's fields say, and w what is written of it
module _ {v w : Written} (viewed : v ≡ w) (fits : Fits v.merged v.texts.rows v.texts.columns) where
  abbrev m : SpanMap
  m = w.merged

  fit : AnchorsFit w.texts.rows w.texts.columns (rectangles m)
  fit = subst (λ (w : Written). AnchorsFit w.texts.rows w.texts.columns (rectangles w.merged)) viewed (anchors-fit v.merged v.texts.rows v.texts.columns fits)

  abbrev own : ℕ → ℕ → Rectangle
  own y x = owner_in (rectangles m) (place y x)

  -- a hidden place's owner begins elsewhere
  pub hidden-apart : (p : Position) → is_hidden m p ≡ true → (owner_in (rectangles m) p).first ≡ p → ⊥
  hidden-apart p hidden same =
      let other = hidden_by m p hidden in
      let member : Member (rectangle other.anchor other.size) (rectangles m) = get-member m (rectangle other.anchor other.size) other.has in
      other.other (sym (ap (λ (o : Rectangle). o.first) (member-owner fit (rectangle other.anchor other.size) p member other.holds)) ∙ same)

  -- an owner is that of the place where it begins
  own-first : (y x : ℕ) → y < w.texts.rows → x < w.texts.columns → (p : Position) → (own y x).first ≡ p → owner_in (rectangles m) p ≡ own y x
  own-first y x k h p same =
      let lies = owner-lies fit (place y x) k h in
      let at : In (own y x) (own y x).first = record { top = omega arith; bottom = omega (arith, lies.0.height); left = omega arith; right = omega (arith, lies.0.width) } in
      sym (ap (owner_in (rectangles m)) same) ∙ owner-shared fit (place y x) (own y x).first at

  -- what is hidden is what began before
  begun-hidden : (i j : ℕ) → begun (own_area m) i j j i ≡ is_hidden m (place i j)
  begun-hidden i j = of-place (is_hidden m (place i j)) refl
    where
      of-place : (b : Bool) → is_hidden m (place i j) ≡ b → begun (own_area m) i j j i ≡ b
      of-place true hidden = let h = owner-holds (rectangles m) (place i j) in before-in i j (own i j).first.col (own i j).first.row h.left h.top (λ col row. hidden-apart (place i j) hidden (ap₂ place row col))
      of-place false seen = let first = owner-self (rectangles m) (place i j) seen in before-here i j (own i j).first.col (own i j).first.row (ap (λ (p : Position). p.col) first) (ap (λ (p : Position). p.row) first)

  module _ {i j : ℕ} {ends : List ℕ} (inside : IsInside w.texts (place i j)) (known : AreEnds w i j ends) where
    hidden-is : nat_lt i (get_or ends j 0) ≡ is_hidden m (place i j)
    hidden-is = known.down j i inside.col (omega arith) inside.row ∙ begun-hidden i j

    pub hidden-above : i < get_or ends j 0 → is_hidden m (place i j) ≡ true
    hidden-above above = sym hidden-is ∙ lt-ltb _ _ above

    pub seen-below : get_or ends j 0 ≤ i → is_hidden m (place i j) ≡ false
    seen-below past = sym hidden-is ∙ le-ltb _ _ past

    pub ends-hidden : i < get_or ends j 0 → AreEnds w i (j + 1) ends
    ends-hidden above = record {
      long = known.long;
      down = λ x y h more k. known.down x y h more k ∙ sym (before-same i j (own y x).first.col (own y x).first.row (λ col row. apart x y h k (ap₂ place row col)));
    }
      where
        apart : (x y : ℕ) → x < w.texts.columns → y < w.texts.rows → (own y x).first ≡ place i j → ⊥
        apart x y h k same = hidden-apart (place i j) (hidden-above above) (ap (λ (o : Rectangle). o.first) (own-first y x k h (place i j) same) ∙ same)

    module _ (past : get_or ends j 0 ≤ i) {size : Size} (sized : size ≡ size_at v.merged (place i j)) where
      size-is : size ≡ size_at m (place i j)
      size-is = sized ∙ ap (λ (w : Written). size_at w.merged (place i j)) viewed

      is : rectangle (place i j) size ≡ own i j
      is = ap (rectangle (place i j)) size-is ∙ owner-begins m (place i j) (owner-self (rectangles m) (place i j) (seen-below past))

      lies : HasArea (own i j) × LiesInside w.texts.rows w.texts.columns (own i j)
      lies = owner-lies fit (place i j) inside.row inside.col

      pub across : j + size.width ≤ w.texts.columns
      across = omega (arith, lies.1.right, ap (λ (o : Rectangle). o.first.col + o.size.width) is)

      pub below : i + size.height ≤ v.texts.rows
      below = omega (arith, lies.1.bottom, ap (λ (o : Rectangle). o.first.row + o.size.height) is, ap (λ (w : Written). w.texts.rows) viewed)

      high : 0 < size.height
      high = omega (arith, lies.0.height, ap (λ (o : Rectangle). o.size.height) is)

      -- it owns the places in it, and holds no other
      owned : (x y : ℕ) → j ≤ x → x < j + size.width → i ≤ y → y < i + size.height → own y x ≡ own i j
      owned x y left right top bottom = owner-shared fit (place i j) (place y x) (subst (λ (o : Rectangle). In o (place y x)) is (record { top = top; bottom = bottom; left = left; right = right }))

      first-is : (own i j).first ≡ place i j
      first-is = sym (ap (λ (o : Rectangle). o.first) is)

      in-it : (x y : ℕ) → own y x ≡ own i j → In (rectangle (place i j) size) (place y x)
      in-it x y same = subst (λ (o : Rectangle). In o (place y x)) (same ∙ sym is) (owner-holds (rectangles m) (place y x))

      within : (x y : ℕ) → j ≤ x → x < j + size.width → x < w.texts.columns → i ≤ y → y < w.texts.rows → nat_lt y (i + size.height) ≡ begun (own_area m) i (j + 1) x y
      within x y left right h more k = of-row (cases_lt y (i + size.height))
        where
          not-begun : i + size.height ≤ y → begun (own_area m) i (j + 1) x y ≡ true → ⊥
          not-begun past before =
              let holds = owner-holds (rectangles m) (place y x) in
              let up = before-up i (j + 1) (own y x).first.col (own y x).first.row before in
              let same = owner-shared fit (place y x) (place i x) (record { top = up; bottom = omega (arith, holds.bottom, more); left = holds.left; right = holds.right }) in
              let in_it = in-it x y (sym same ∙ owned x i left right (omega arith) (omega (arith, high))) in
              omega (arith, in_it.bottom, past)

          of-row : (y < i + size.height) ⊎ (i + size.height ≤ y) → nat_lt y (i + size.height) ≡ begun (own_area m) i (j + 1) x y
          of-row (inl less) =
              let first = ap (λ (o : Rectangle). o.first) (owned x y left right more less) ∙ first-is in
              lt-ltb _ _ less ∙ sym (before-next i j (own y x).first.col (own y x).first.row (ap (λ (p : Position). p.col) first) (ap (λ (p : Position). p.row) first))
          of-row (inr past) = le-ltb _ _ past ∙ sym (false_from_ne_true (begun (own_area m) i (j + 1) x y) (not-begun past))

      pub ends-seen : (news : List ℕ) → length news ≡ length ends → ((x : ℕ) → get_or news x 0 ≡ cond (nat_le j x && nat_lt x (j + size.width)) (i + size.height) (get_or ends x 0)) → AreEnds w i (j + 1) news
      ends-seen news long numbers = record {
        long = long ∙ known.long;
        down = λ x y h more k. ap (nat_lt y) (numbers x) ∙ of-column x y h more k (nat_le j x && nat_lt x (j + size.width)) refl;
      }
        where
          of-column : (x y : ℕ) → x < w.texts.columns → i ≤ y → y < w.texts.rows → (b : Bool) → (nat_le j x && nat_lt x (j + size.width)) ≡ b → nat_lt y (cond b (i + size.height) (get_or ends x 0)) ≡ begun (own_area m) i (j + 1) x y
          of-column x y h more k true t = let run = in-run j size.width x t in within x y run.0 run.1 h more k
          of-column x y h more k false f =
              known.down x y h more k
              ∙ sym (before-same i j (own y x).first.col (own y x).first.row (λ col row. (let held = in-it x y (sym (own-first y x k h (place i j) (ap₂ place row col))) in out-of-run j size.width x held.left held.right f)))

  pub ends-row : {i j : ℕ} {ends : List ℕ} → v.texts.columns ≤ j → AreEnds w i j ends → AreEnds w (i + 1) 0 ends
  ends-row {i} {j} past known = record {
    long = known.long;
    down = λ x y h more k. (let holds = owner-holds (rectangles m) (place y x) in known.down x y h (omega (arith, more)) k ∙ before-row i j (own y x).first.col (own y x).first.row (omega (arith, holds.left, h, past, ap (λ (w : Written). w.texts.columns) viewed)));
  }
