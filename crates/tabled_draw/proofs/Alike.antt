-- Tables whose texts differ only where merged cells hide them have one picture.
use Rattle.tabled_draw.proofs.Common.{Alignment, Columns, Grid, In, List, Member, None, Option, Plan, Position, Rectangle, Rows, Some, SpanMap, Style, [], across, aligned, alignment_in, ap, ap₂, are_none, arith, arms, asks, border, border_line, by_number, bytes_of_lines, cases_Bool, column_at, cond, cond-false, count_along, differ, each, edge_at, eqb, false, false_from_ne_true, fitting, fold, get_or, grown_for, grown_sizes, heights, holds, holds-true, in_order, inl, inr, is_hidden_in, largest, least, line_at, line_height, line_of, line_size, lines_around, lines_in, lines_of_row, lines_shown, mark, not, own, own_sizes, owner_in, picture, picture_lines, place, place_in, plan_of, rectangles, refl, replicate, room, same_place, same_place-self, same_place-true, shows, shows_in, start_of, subst, sym, text_of_cell, top, true, widths, ℕ, ◌&&◌, ◌++◌, ◌+◌, ◌-◌, ◌<◌, ◌==◌, ◌||◌, ◌∙◌, ◌∷◌, ◌≡◌, false≢true}
use Rattle.std.proofs.lemmas.Bool.{and_parts}
use Rattle.tabled_draw.proofs.Each.{each-same}
use Rattle.tabled_draw.proofs.Fitting.{kept-fit}
use Rattle.tabled_draw.proofs.Owned.{owner-some}
use Rattle.tabled_grid.proofs.Owners.{AnchorsFit, Owned, anchor-lies, anchors-one, member-owner, owned, owner-lies}
use Rattle.tabled_grid.proofs.Owners.Owned.{alone, held}
use Rattle.tabled_draw.proofs.Sizes.{from-order, largest-same, place-within}
use Rattle.tabled_draw.specs.Owners.{owner}
use Rattle.tabled_draw.specs.Picture.{drawn_with}
use Rattle.tabled_draw.specs.Sizes.{sizes}
use Rattle.tabled_draw.specs.Standing.{AreSeenAlike}
use Rattle.tabled_grid.proofs.Members.{any-member}
use Rattle.tabled_grid.specs.declared.records.axis.Axis.{Axis}
use Rattle.tabled_grid.specs.Rectangles.{HasArea, LiesInside}

module _ (style : Style) (aligns : List Alignment) (g h : Grid (List ℕ)) (es : List Rectangle) (fit : AnchorsFit g.rows g.columns es) (alike : AreSeenAlike g h es) where
  abbrev one : Plan
  one = plan_of style g es

  abbrev two : Plan
  two = plan_of style h es

  -- ---- texts that are seen

  -- nothing hides the place where an owner begins
  owner-seen : (p : Position) → p.row < g.rows → p.col < g.columns → is_hidden_in es (owner_in es p).first ≡ false
  owner-seen p low far = false_from_ne_true _ (λ t. none-hides (any-member (λ (e : Rectangle). holds e (owner_in es p).first && not (same_place e.first (owner_in es p).first)) es t))
    where
      lies : HasArea (owner_in es p) × LiesInside g.rows g.columns (owner_in es p)
      lies = owner-lies fit p low far

      here : In (owner_in es p) (owner_in es p).first
      here = record { top = omega arith; bottom = omega (arith, lies.0.height); left = omega arith; right = omega (arith, lies.0.width) }

      begins : (e : Rectangle) → Member e es → In e (owner_in es p).first → Owned es p (owner_in es p) → e.first ≡ (owner_in es p).first
      begins e m inside (held n k) = ap (λ (x : Rectangle). x.first) (anchors-one fit e (owner_in es p) (owner_in es p).first m n inside here)
      begins e m inside (alone is never) = absurd (never e m (subst (λ (x : Rectangle). In e x.first) is inside))

      none-hides : (e : Rectangle) × Member e es × ((holds e (owner_in es p).first && not (same_place e.first (owner_in es p).first)) ≡ true) → ⊥
      none-hides found =
          let e = found.0 in
          let parts = and_parts (holds e (owner_in es p).first) (not (same_place e.first (owner_in es p).first)) found.2 in
          let same : e.first ≡ (owner_in es p).first = begins e found.1 (holds-true e (owner_in es p).first parts.0) (owned es p) in
          false≢true (sym (ap (λ q. not (same_place q (owner_in es p).first)) same ∙ ap not (same_place-self (owner_in es p).first)) ∙ parts.1)

  owner-text : (p : Position) → p.row < g.rows → p.col < g.columns → text_of_cell g (owner_in es p).first ≡ text_of_cell h (owner_in es p).first
  owner-text p low far =
      let lies : HasArea (owner_in es p) × LiesInside g.rows g.columns (owner_in es p) = owner-lies fit p low far in
      alike.texts (owner_in es p).first (record { inside = record { row = omega (arith, lies.1.bottom, lies.0.height); col = omega (arith, lies.1.right, lies.0.width) }; seen = owner-seen p low far })

  member-text : (e : Rectangle) → Member e es → text_of_cell g e.first ≡ text_of_cell h e.first
  member-text e m =
      let lies : HasArea e × LiesInside g.rows g.columns e = anchor-lies fit e m in
      subst (λ (x : Rectangle). text_of_cell g x.first ≡ text_of_cell h x.first) (member-owner fit e e.first m (record { top = omega arith; bottom = omega (arith, lies.0.height); left = omega arith; right = omega (arith, lies.0.width) }))
      (owner-text e.first (omega (arith, lies.1.bottom, lies.0.height)) (omega (arith, lies.1.right, lies.0.width)))

  -- ---- sizes

  count-alike : (axis : Axis) → count_along axis g ≡ count_along axis h
  count-alike Rows = alike.rows
  count-alike Columns = alike.columns

  own-alike : (axis : Axis) (p : Position) → p.row < g.rows → p.col < g.columns → own axis g es p ≡ own axis h es p
  own-alike axis p low far = elim (cases_Bool (same_place (owner_in es p).first p)) [
    | inl t ↦ ap (λ x. cond (same_place (owner_in es p).first p && (lines_in axis (owner_in es p).size == 1)) (asks axis x) 0) (subst (λ q. text_of_cell g q ≡ text_of_cell h q) (same_place-true (owner_in es p).first p t) (owner-text p low far))
    | inr f ↦ cond-false _ _ _ (ap (λ b. b && (lines_in axis (owner_in es p).size == 1)) f) ∙ sym (cond-false _ _ _ (ap (λ b. b && (lines_in axis (owner_in es p).size == 1)) f))
  ]

  own_sizes-alike : (axis : Axis) → own_sizes axis g es ≡ own_sizes axis h es
  own_sizes-alike axis =
      let of_line : Grid (List ℕ) → ℕ → List ℕ = λ t k. largest (least axis) (count_along (across axis) t) (λ i. own axis t es (place_in axis k i)) ∷ [] in
      each-same (of_line g) (of_line h) (count_along axis g) (λ k less. ap (λ n. n ∷ [])
      (largest-same (least axis) (λ i. own axis g es (place_in axis k i)) (λ i. own axis h es (place_in axis k i)) (count_along (across axis) g) (λ i within. (let inside = place-within axis g k i less within in own-alike axis (place_in axis k i) inside.0 inside.1))
      ∙ ap (λ n. largest (least axis) n (λ i. own axis h es (place_in axis k i))) (count-alike (across axis))))
      ∙ ap (λ n. each n (of_line h)) (count-alike axis)

  grown-alike : (axis : Axis) (s : List ℕ) (e : Rectangle) → Member e es → grown_for axis style g s e ≡ grown_for axis style h s e
  grown-alike axis s e m = ap₂ (λ n text. grown_sizes axis (line_size (lines_around axis style) n) s (line_of axis e.first) (lines_in axis e.size) (asks axis text)) (count-alike axis) (member-text e m)

  fold-alike : (axis : Axis) (xs : List Rectangle) (s : List ℕ) → ((e : Rectangle) → Member e xs → Member e es) → fold (grown_for axis style g) s xs ≡ fold (grown_for axis style h) s xs
  fold-alike axis [] s among = refl
  fold-alike axis (e ∷ xs) s among = ap (λ t. fold (grown_for axis style g) t xs) (grown-alike axis s e (among e (inl refl))) ∙ fold-alike axis xs (grown_for axis style h s e) (λ x m. among x (inr m))

  order-alike : (axis : Axis) → in_order axis g es ≡ in_order axis h es
  order-alike axis = ap (λ n. by_number (λ (e : Rectangle). lines_in axis e.size) (n + 1) (by_number (λ (e : Rectangle). line_of axis e.first) n es)) (count-alike axis)

  sizes-alike : (axis : Axis) → sizes axis style g es ≡ sizes axis style h es
  unfolding sizes
  sizes-alike axis = fold-alike axis (in_order axis g es) (own_sizes axis g es) (from-order axis style g es) ∙ ap₂ (fold (grown_for axis style h)) (own_sizes-alike axis) (order-alike axis)

  border-alike : (axis : Axis) (k : ℕ) → border axis style g k ≡ border axis style h k
  border-alike axis k = ap (λ n. line_size (lines_around axis style) n k) (count-alike axis)

  start-alike : (axis : Axis) (k : ℕ) → start_of axis (border axis style g) (sizes axis style g es) k ≡ start_of axis (border axis style h) (sizes axis style h es) k
  start-alike axis k = ap₂ (λ n s. start_of axis (line_size (lines_around axis style) n) s k) (count-alike axis) (sizes-alike axis)

  -- ---- lines

  owner-alike : (i j : ℕ) → owner g.rows g.columns es i j ≡ owner h.rows h.columns es i j
  owner-alike i j = ap₂ (λ r c. owner r c es i j) alike.rows alike.columns

  shows-alike : (n : ℕ) (o : Rectangle) → text_of_cell g o.first ≡ text_of_cell h o.first → shows one aligns n o ≡ shows two aligns n o
  shows-alike n o text = ap₂ (aligned (alignment_in aligns o.first.col))
      (ap₂ (λ k s. room Columns (line_size style.columns k) s o.first.col o.size.width) alike.columns (sizes-alike Columns))
      (ap₂ (λ t k. get_or (lines_shown t) k []) text (ap₂ (λ a b. n - a - b) (start-alike Rows o.first.row) (border-alike Rows o.first.row)))

  shows_in-alike : (n i j : ℕ) → shows_in one aligns n j (owner g.rows g.columns es i (j + 1)) ≡ shows_in two aligns n j (owner g.rows g.columns es i (j + 1))
  shows_in-alike n i j = owner-shows (owner g.rows g.columns es i (j + 1)) refl
    where
      owner-shows : (a : Option Rectangle) → owner g.rows g.columns es i (j + 1) ≡ a → shows_in one aligns n j a ≡ shows_in two aligns n j a
      owner-shows None e = refl
      owner-shows (Some o) e =
          let s = owner-some e in
          let text : text_of_cell g o.first ≡ text_of_cell h o.first = subst (λ (x : Rectangle). text_of_cell g x.first ≡ text_of_cell h x.first) (sym s.is) (owner-text (place s.row s.col) s.below s.right) in
          ap (λ x. cond (eqb o.first.col j) x []) (shows-alike n o text)

  edge-alike : (u d j : ℕ) → edge_at one u d j ≡ edge_at two u d j
  edge-alike u d j = ap₂ (λ r c. cond (are_none (arms (owner r c es u j) (owner r c es u (j + 1)) (owner r c es d j) (owner r c es d (j + 1)))) []
      (replicate (line_size style.columns c j) (mark style (eqb u d) (arms (owner r c es u j) (owner r c es u (j + 1)) (owner r c es d j) (owner r c es d (j + 1)))))) alike.rows alike.columns

  column-alike : (n u d j : ℕ) → column_at one aligns n u d j ≡ column_at two aligns n u d j
  column-alike n u d j =
      ap₂ (λ s x. cond (differ (owner g.rows g.columns es u (j + 1)) (owner g.rows g.columns es d (j + 1))) (replicate (get_or s j 0 + 2) style.horizontal) x) (sizes-alike Columns) (shows_in-alike n u j)
      ∙ ap₂ (λ a b. cond (differ a b) (replicate (get_or (widths two) j 0 + 2) style.horizontal) (shows_in two aligns n j a)) (owner-alike u (j + 1)) (owner-alike d (j + 1))

  line-alike : (n u d : ℕ) → line_at one aligns n u d ≡ line_at two aligns n u d
  line-alike n u d =
      let part : Plan → ℕ → List ℕ = λ p j. edge_at p u d j ++ column_at p aligns n u d j in
      ap₂ (λ x y. x ++ y)
      (each-same (part one) (part two) g.columns (λ j less. ap₂ (λ x y. x ++ y) (edge-alike u d j) (column-alike n u d j)) ∙ ap (λ c. each c (part two)) alike.columns)
      (edge-alike u d g.columns ∙ ap (edge_at two u d) alike.columns)

  border_line-alike : (i : ℕ) → border_line one aligns i ≡ border_line two aligns i
  border_line-alike i = ap₂ replicate (border-alike Rows i) (line-alike (top one i) i (i + 1) ∙ ap (λ n. line_at two aligns n i (i + 1)) (start-alike Rows i))

  row-alike : (i : ℕ) → lines_of_row one aligns i ≡ lines_of_row two aligns i
  row-alike i =
      let line : Plan → ℕ → List (List ℕ) = λ p y. line_at p aligns (top p i + line_height p i + y) (i + 1) (i + 1) ∷ [] in
      ap₂ (λ x y. x ++ y) (border_line-alike i)
      (each-same (line one) (line two) (get_or (heights one) i 0) (λ y less. ap (λ x. x ∷ []) (line-alike (top one i + line_height one i + y) (i + 1) (i + 1) ∙ ap₂ (λ a b. line_at two aligns (a + b + y) (i + 1) (i + 1)) (start-alike Rows i) (border-alike Rows i)))
      ∙ ap (λ s. each (get_or s i 0) (line two)) (sizes-alike Rows))

  pub picture-alike : picture_lines one aligns ≡ picture_lines two aligns
  picture-alike =
      ap (cond ((g.rows == 0) || (g.columns == 0)) []) (ap₂ (λ x y. x ++ y) (each-same (lines_of_row one aligns) (lines_of_row two aligns) g.rows (λ i less. row-alike i)) (border_line-alike g.rows))
      ∙ ap₂ (λ r c. cond ((r == 0) || (c == 0)) [] (each r (lines_of_row two aligns) ++ border_line two aligns r)) alike.rows alike.columns

pub drawn-alike : (style : Style) (aligns : List Alignment) (g h : Grid (List ℕ)) (m : SpanMap) → AreSeenAlike g h (fitting g.rows g.columns (rectangles m)) → drawn_with style aligns g m ≡ drawn_with style aligns h m
unfolding drawn_with
drawn-alike style aligns g h m alike =
    ap bytes_of_lines (picture-alike style aligns g h (fitting g.rows g.columns (rectangles m)) (kept-fit m g.rows g.columns) alike)
    ∙ ap₂ (λ r c. bytes_of_lines (picture style aligns h (fitting r c (rectangles m)))) alike.rows alike.columns
