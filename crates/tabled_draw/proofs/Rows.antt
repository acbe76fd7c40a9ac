-- A line as it is drawn is the line of the picture; the lines of a row, and those of all rows.
use Rattle.tabled_draw.proofs.Common.{Alignment, AreEdges, AreLeft, Bool, Bor, Columns, EndInside, Fits, Grid, IsOwnerRow, List, None, Option, Plan, Position, Rectangle, Rows, Some, SpanMap, [], add-zero, after_line, aligned, alignment_in, ap, append-nil, append_assoc, ap₂, arith, begins, begun, border_line, bytes_in, cases_Bool, cases_eq, cases_lt, column, column_at, cond, cond-false, cond-true, differ, drawn_border, each, edge, edge_at, edge_before, eq-eqb, eqb, false, first_line, get_or, heights, inl, inr, is_drawn, left, left_of, length, line_at, line_height, line_width, lines_of_row, lines_shown, ne_eqb, owner_at, picture_lines, place, plan_on, rectangles, refl, replicate, room, same_place, same_place-apart, same_place-self, shows_in, size_if, stretch, suc, sym, text_inside, text_of_cell, top, true, widths, with_newlines, zero, ℕ, ◌++◌, ◌+◌, ◌-◌, ◌<◌, ◌==◌, ◌||◌, ◌∙◌, ◌∷◌, ◌≡◌, ◌≤◌, ◌⊎◌}
use Rattle.tabled_draw.proofs.Arms.{differ-self}
use Rattle.tabled_draw.proofs.Each.{each-same, each-more}
use Rattle.tabled_draw.proofs.Shares.{room-end}
use Rattle.tabled_draw.proofs.Sizes.{start-next}
use Rattle.tabled_draw.proofs.Owned.{Owns, owner-owns, owner-some}
use Rattle.tabled_grid.proofs.Owners.{AnchorsFit, anchors-fit}
use Rattle.tabled_draw.specs.Lines.{drawn_line}
use Rattle.tabled_draw.specs.Owners.{owner}
use Rattle.std.proofs.lemmas.List.Concat.{flat_map-append}
use Rattle.tabled_draw.proofs.Shown.{next-line}
use Rattle.tabled_draw.specs.declared.sheet.Sheet.{Sheet}

-- an edge as it is drawn is that of the picture
pub edge-is : (plan : Plan) (u d j : ℕ) (is_row : Bool) (columns : ℕ) (p q r s : Option Rectangle) → is_row ≡ eqb u d → columns ≡ plan.grid.columns
    → p ≡ owner_at plan u j → q ≡ owner_at plan u (j + 1) → r ≡ owner_at plan d j → s ≡ owner_at plan d (j + 1)
    → edge plan.style is_row (size_if (is_drawn plan.style.columns columns j)) p q r s ≡ edge_at plan u d j
edge-is plan u d j is_row columns p q r s is same e1 e2 e3 e4 = rw (is, same, e1, e2, e3, e4) refl

-- the line above a row stands after those above all rows before it
pub top-below : (plan : Plan) (r i : ℕ) → r < i → top plan r + line_height plan r ≤ top plan i
top-below plan r i low =
    let n = i - r in
    let same : top plan (r + n) ≡ top plan i = ap (top plan) (let e : r + n ≡ i = omega arith in e) in
    let more : top plan (r + n) ≡ top plan r + (line_height plan r + room Rows (line_height plan) (heights plan) r n + 0) = room-end Rows (line_height plan) (heights plan) r n (omega arith) in
    omega (arith, same, more)

-- ---- what is left of the texts, line by line

-- what begins above a row owns the place above, too
owner-over : {rows columns : ℕ} {es : List Rectangle} (fit : AnchorsFit rows columns es) (i j : ℕ) (o : Rectangle) → owner rows columns es (i + 1) j ≡ Some o → o.first.row < i → owner rows columns es i j ≡ Some o
owner-over fit i j o e above = let a = owner-owns fit e in a.all i j above (omega (arith, a.bottom)) a.left a.right

module _ (plan : Plan) (fit : AnchorsFit plan.grid.rows plan.grid.columns plan.merged) where
  -- above the first row nothing is left
  pub left-outside : (n : ℕ) (texts : List (List ℕ)) → AreLeft plan 0 n texts
  left-outside n texts = record { each = λ j o less e. (let s = owner-some e in absurd (omega (arith, s.is_row))) }

  -- a line that runs through an owner shows the next line of its text
  cut-next : (text lines : List ℕ) (k y : ℕ) → ((y : ℕ) → get_or (lines_shown text) y [] ≡ get_or (lines_shown lines) (k + y) []) → get_or (lines_shown (after_line text)) y [] ≡ get_or (lines_shown lines) (k + 1 + y) []
  cut-next text lines k y was = next-line text y ∙ was (y + 1) ∙ ap (λ n. get_or (lines_shown lines) n []) (omega arith)

  -- a line in a row
  pub left-in_row : (i n : ℕ) (old new : List (List ℕ)) → 0 < i → i ≤ plan.grid.rows → top plan (i - 1) + line_height plan (i - 1) ≤ n → AreLeft plan i n old
      → ((j : ℕ) → j < plan.grid.columns → get_or new j [] ≡ left_of j (owner_at plan i (j + 1)) (owner_at plan i (j + 1)) (get_or old j [])) → AreLeft plan i (n + 1) new
  left-in_row i n old new low high after was is = record { each = λ j o less e begin y. lines-left j o less e begin y }
    where
      lines-left : (j : ℕ) (o : Rectangle) → j < plan.grid.columns → owner_at plan i (j + 1) ≡ Some o → o.first.col ≡ j → (y : ℕ) → get_or (lines_shown (get_or new j [])) y [] ≡ get_or (lines_shown (text_of_cell plan.grid o.first)) (n + 1 - top plan o.first.row - line_height plan o.first.row + y) []
      lines-left j o less e begin y =
          let cut : get_or new j [] ≡ after_line (get_or old j []) = is j less ∙ cond-false _ _ _ (differ-self (owner_at plan i (j + 1))) ∙ cond-true _ _ _ (ap (begins j) e ∙ eq-eqb o.first.col j begin) in
          let row = (owner-owns fit e).top in
          let over : top plan o.first.row + line_height plan o.first.row ≤ n = upper (cases_lt o.first.row (i - 1)) row in
          ap (λ t. get_or (lines_shown t) y []) cut ∙ cut-next (get_or old j []) (text_of_cell plan.grid o.first) (n - top plan o.first.row - line_height plan o.first.row) y (was.each j o less e begin) ∙ ap (λ k. get_or (lines_shown (text_of_cell plan.grid o.first)) k []) (omega (arith, over))
        where
          upper : (o.first.row < i - 1) ⊎ (i - 1 ≤ o.first.row) → o.first.row < i → top plan o.first.row + line_height plan o.first.row ≤ n
          upper (inl before) row = omega (arith, top-below plan o.first.row (i - 1) before, after)
          upper (inr not) row = let same : top plan o.first.row + line_height plan o.first.row ≡ top plan (i - 1) + line_height plan (i - 1) = ap (λ k. top plan k + line_height plan k) (omega (arith, not, row)) in omega (arith, same, after)

  -- the line above a row, if it is drawn, and the texts that begin in it
  pub left-next_row : (drawn : Bool) (i n : ℕ) (old cut new : List (List ℕ)) → i < plan.grid.rows → n ≡ top plan i → line_height plan i ≡ size_if drawn → AreLeft plan i n old
      → ((j : ℕ) → j < plan.grid.columns → get_or cut j [] ≡ cond drawn (left_of j (owner_at plan i (j + 1)) (owner_at plan (i + 1) (j + 1)) (get_or old j [])) (get_or old j []))
      → ((j : ℕ) → j < plan.grid.columns → get_or new j [] ≡ begun plan.grid (owner_at plan (i + 1) (j + 1)) (place i j) (get_or cut j [])) → AreLeft plan (i + 1) (n + size_if drawn) new
  left-next_row drawn i n old cut new high is_n size was is_cut is_new = record { each = λ j o less e begin y. lines-left j o less e begin y (cases_lt o.first.row i) }
    where
      lines-left : (j : ℕ) (o : Rectangle) → j < plan.grid.columns → owner_at plan (i + 1) (j + 1) ≡ Some o → o.first.col ≡ j → (y : ℕ) → (o.first.row < i) ⊎ (i ≤ o.first.row) → get_or (lines_shown (get_or new j [])) y [] ≡ get_or (lines_shown (text_of_cell plan.grid o.first)) (n + size_if drawn - top plan o.first.row - line_height plan o.first.row + y) []
      lines-left j o less e begin y (inr here) =
          let row : o.first.row ≡ i = omega (arith, here, (owner-owns fit e).top) in
          let same : o.first ≡ place i j = ap₂ place row begin in
          let text : get_or new j [] ≡ text_of_cell plan.grid o.first = is_new j less ∙ ap (λ (x : Option Rectangle). begun plan.grid x (place i j) (get_or cut j [])) e ∙ cond-true _ _ _ (ap (λ q. same_place q (place i j)) same ∙ same_place-self (place i j)) ∙ ap (text_of_cell plan.grid) (sym same) in
          let first : n + size_if drawn - top plan o.first.row - line_height plan o.first.row + y ≡ y = (let t : top plan o.first.row ≡ top plan i = ap (top plan) row in let b : line_height plan o.first.row ≡ size_if drawn = ap (line_height plan) row ∙ size in omega (arith, t, b, is_n)) in
          ap (λ t. get_or (lines_shown t) y []) text ∙ ap (λ k. get_or (lines_shown (text_of_cell plan.grid o.first)) k []) (sym first)
      lines-left j o less e begin y (inl above) = elim (cases_Bool drawn) [
        | inl t ↦
            let next : get_or cut j [] ≡ after_line (get_or old j []) = is_cut j less ∙ cond-true _ _ _ t ∙ cond-false _ _ _ one ∙ cond-true _ _ _ (ap (begins j) over ∙ eq-eqb o.first.col j begin) in
            let high : size_if drawn ≡ 1 = cond-true drawn 1 0 t in
            ap (λ t. get_or (lines_shown t) y []) (kept ∙ next) ∙ cut-next (get_or old j []) (text_of_cell plan.grid o.first) (n - top plan o.first.row - line_height plan o.first.row) y (was.each j o less over begin) ∙ ap (λ k. get_or (lines_shown (text_of_cell plan.grid o.first)) k []) (omega (arith, low, high))
        | inr f ↦
            let next : get_or cut j [] ≡ get_or old j [] = is_cut j less ∙ cond-false _ _ _ f in
            let high : size_if drawn ≡ 0 = cond-false drawn 1 0 f in
            ap (λ t. get_or (lines_shown t) y []) (kept ∙ next) ∙ was.each j o less over begin y ∙ ap (λ k. get_or (lines_shown (text_of_cell plan.grid o.first)) k []) (omega (arith, low, high))
      ]
        where
          over : owner_at plan i (j + 1) ≡ Some o
          over = owner-over fit i (j + 1) o e above

          one : differ (owner_at plan i (j + 1)) (owner_at plan (i + 1) (j + 1)) ≡ false
          one = ap₂ differ over e ∙ differ-self (Some o)

          kept : get_or new j [] ≡ get_or cut j []
          kept = is_new j less ∙ ap (λ (x : Option Rectangle). begun plan.grid x (place i j) (get_or cut j [])) e ∙ cond-false _ _ _ (same_place-apart o.first (place i j) (λ at. omega (arith, above, ap (λ (q : Position). q.row) at)))

          low : top plan o.first.row + line_height plan o.first.row ≤ n
          low = omega (arith, top-below plan o.first.row i above, is_n)

-- ---- lines as they are drawn

pub end-inside : (m : SpanMap) (rows columns i : ℕ) (row : List (Option Rectangle)) → Fits m rows columns → IsOwnerRow rows columns (rectangles m) i row → EndInside columns row
end-inside m rows columns i row fits is = record { each = λ j o less e begin. (let there = owner-owns (anchors-fit m rows columns fits) (sym (is.each (j + 1) (omega (arith, less))) ∙ e) in omega (arith, there.lies.1.right, begin)) }

-- ---- lines with a newline after each

pub ended-more : (xs : List (List ℕ)) (x : List ℕ) → with_newlines (xs ++ (x ∷ [])) ≡ with_newlines xs ++ (x ++ (10 ∷ []))
ended-more xs x = flat_map-append (λ line. line ++ (10 ∷ [])) xs (x ∷ []) ∙ ap (λ ys. with_newlines xs ++ ys) (append-nil (x ++ (10 ∷ [])))

module _ (sheet : Sheet) (g : Grid (List ℕ)) (m : SpanMap) (fits : Fits m g.rows g.columns) (laid : AreEdges (plan_on sheet g m) sheet.edges.now) where
  abbrev plan : Plan
  plan = plan_on sheet g m

  abbrev aligns : List Alignment
  aligns = sheet.look.alignments.now

  abbrev edges : List ℕ
  edges = sheet.edges.now

  module _ (n u d : ℕ) where
    -- the lines that are left in each column are those that the n-th line of the picture shows
    unfoldable pub AreNext : List (List ℕ) → Type 0
    AreNext texts = (j : ℕ) (o : Rectangle) → j < g.columns → owner_at plan u (j + 1) ≡ Some o → o.first.col ≡ j → differ (owner_at plan u (j + 1)) (owner_at plan d (j + 1)) ≡ false
        → first_line (get_or texts j []) ≡ get_or (lines_shown (text_of_cell g o.first)) (n - top plan o.first.row - line_height plan o.first.row) []

    module _ (columns : ℕ) (same : columns ≡ g.columns) where
      -- the room of what begins in a column
      room-is : (j col w : ℕ) → col ≡ j → j + w < g.columns + 1 → get_or edges (j + w) 0 - get_or edges j 0 - size_if (is_drawn sheet.look.style.columns columns j) - 2 ≡ room Columns (line_width plan) (widths plan) col w
      room-is j col w at h = rw (at, same) (ap₂ (λ x y. x - y - line_width plan j - 2) (laid.each (j + w) h) (laid.each j (omega (arith, h))))

      inside-is : (texts : List (List ℕ)) → AreNext texts → (j : ℕ) → j < g.columns → (a : Option Rectangle) → a ≡ owner_at plan u (j + 1)
          → differ (owner_at plan u (j + 1)) (owner_at plan d (j + 1)) ≡ false → text_inside sheet (is_drawn sheet.look.style.columns columns j) j a (get_or texts j []) ≡ shows_in plan aligns n j a
      unfolding AreNext
      inside-is texts next j less None e one = refl
      inside-is texts next j less (Some o) e one = elim (cases_eq o.first.col j) [
        | inl at ↦
            cond-true _ _ _ (eq-eqb o.first.col j at)
            ∙ ap₂ (λ x y. aligned (alignment_in aligns j) x y) (room-is j o.first.col o.size.width at (omega (arith, there.lies.1.right, at))) (next j o less (sym e) at one)
            ∙ ap (λ k. aligned (alignment_in aligns k) (room Columns (line_width plan) (widths plan) o.first.col o.size.width) line) (sym at)
            ∙ sym (cond-true _ _ _ (eq-eqb o.first.col j at))
        | inr apart ↦ cond-false _ _ _ (ne_eqb o.first.col j apart) ∙ sym (cond-false _ _ _ (ne_eqb o.first.col j apart))
      ]
        where
          there : Owns g.rows g.columns (rectangles m) u (j + 1) o
          there = owner-owns (anchors-fit m g.rows g.columns fits) (sym e)

          line : List ℕ
          line = get_or (lines_shown (text_of_cell g o.first)) (n - top plan o.first.row - line_height plan o.first.row) []

      size-is : (j : ℕ) → j < g.columns → get_or edges (j + 1) 0 - get_or edges j 0 - size_if (is_drawn sheet.look.style.columns columns j) ≡ get_or (widths plan) j 0 + 2
      size-is j less =
          let last : get_or edges (j + 1) 0 ≡ left plan (j + 1) = laid.each (j + 1) (omega (arith, less)) in
          let first : get_or edges j 0 ≡ left plan j = laid.each j (omega (arith, less)) in
          let next : left plan (j + 1) ≡ left plan j + (size_if (is_drawn sheet.look.style.columns columns j) + get_or (widths plan) j 0 + 2) = rw same (start-next Columns sheet.look.style g (rectangles m) j) in
          omega arith

    module _ (is_row : Bool) (is_mark : is_row ≡ eqb u d) (above below : List (Option Rectangle)) (over : IsOwnerRow g.rows g.columns (rectangles m) u above) (under : IsOwnerRow g.rows g.columns (rectangles m) d below)
        (texts : List (List ℕ)) (next : AreNext texts) (columns : ℕ) (same : columns ≡ g.columns) where
      column-is : (j : ℕ) → j < g.columns → column sheet (is_drawn sheet.look.style.columns columns j) (differ (get_or above (j + 1) None) (get_or below (j + 1) None)) j (get_or above (j + 1) None) (get_or texts j []) ≡ column_at plan aligns n u d j
      column-is j less =
          ap₂ (λ x y. column sheet (is_drawn sheet.look.style.columns columns j) (differ x y) j x (get_or texts j [])) (over.each (j + 1) (omega (arith, less))) (under.each (j + 1) (omega (arith, less)))
          ∙ elim (cases_Bool (differ a b)) [
            | inl two ↦ ap (λ s. cond (differ a b) (replicate s sheet.look.style.horizontal) (text_inside sheet (is_drawn sheet.look.style.columns columns j) j a (get_or texts j []))) (size-is columns same j less) ∙ cond-true _ _ _ two ∙ sym (cond-true _ _ _ two)
            | inr one ↦ cond-false _ _ _ one ∙ inside-is columns same texts next j less a refl one ∙ sym (cond-false _ _ _ one)
          ]
        where
          a : Option Rectangle
          a = owner_at plan u (j + 1)

          b : Option Rectangle
          b = owner_at plan d (j + 1)

      pub line-is : drawn_line sheet is_row above below columns texts ≡ line_at plan aligns n u d ++ (10 ∷ [])
      unfolding drawn_line
      line-is =
          ap (λ x. x ++ (10 ∷ [])) (ap (λ k. each k (stretch sheet is_row above below columns texts) ++ edge_before sheet is_row above below columns k) same
          ∙ ap₂ (λ x y. x ++ y)
          (each-same (stretch sheet is_row above below columns texts) _ g.columns (λ j less. ap₂ (λ x y. x ++ y)
          (edge-is plan u d j is_row columns _ _ _ _ is_mark same (over.each j (omega (arith, less))) (over.each (j + 1) (omega (arith, less))) (under.each j (omega (arith, less))) (under.each (j + 1) (omega (arith, less))))
          (column-is j less)))
          (edge-is plan u d g.columns is_row columns _ _ _ _ is_mark same (over.each g.columns (omega arith)) (over.each (g.columns + 1) (omega arith)) (under.each g.columns (omega arith)) (under.each (g.columns + 1) (omega arith))))

  next-of : (u d n : ℕ) (texts : List (List ℕ)) → AreLeft plan u n texts → AreNext n u d texts
  unfolding AreNext
  next-of u d n texts was j o less e begin one = was.each j o less e begin 0 ∙ ap (λ k. get_or (lines_shown (text_of_cell g o.first)) k []) (add-zero (n - top plan o.first.row - line_height plan o.first.row))

  -- the line above a row
  between : (i n : ℕ) (above here : List (Option Rectangle)) (texts : List (List ℕ)) (columns : ℕ) → n ≡ top plan i → IsOwnerRow g.rows g.columns (rectangles m) i above → IsOwnerRow g.rows g.columns (rectangles m) (i + 1) here → AreLeft plan i n texts → columns ≡ g.columns
      → drawn_line sheet false above here columns texts ≡ line_at plan aligns (top plan i) i (i + 1) ++ (10 ∷ [])
  between i n above here texts columns is over under was same =
      line-is n i (i + 1) false (sym (ne_eqb i (i + 1) (λ e. omega (arith, e)))) above here over under texts (next-of i (i + 1) n texts was) columns same
      ∙ ap (λ k. line_at plan aligns k i (i + 1) ++ (10 ∷ [])) is

  -- the line above a row, if it is drawn
  pub border-text : (i n : ℕ) (above here : List (Option Rectangle)) (rests : List (Bor (List ℕ))) → sheet.rows ≡ g.rows → n ≡ top plan i → IsOwnerRow g.rows g.columns (rectangles m) i above → IsOwnerRow g.rows g.columns (rectangles m) (i + 1) here → AreLeft plan i n (bytes_in rests) → length rests ≡ g.columns
      → drawn_border sheet i above here (length rests) (bytes_in rests) ≡ with_newlines (border_line plan aligns i)
  border-text i n above here rests same is over under was long =
      ap (λ k. cond (is_drawn sheet.look.style.rows k i) written []) same
      ∙ elim (cases_Bool (is_drawn sheet.look.style.rows g.rows i)) [
        | inl t ↦ cond-true _ _ _ t ∙ between i n above here (bytes_in rests) (length rests) is over under was long ∙ sym (append-nil (line ++ (10 ∷ []))) ∙ ap (λ k. with_newlines (replicate k line)) (sym (cond-true _ 1 0 t))
        | inr f ↦ cond-false _ _ _ f ∙ ap (λ k. with_newlines (replicate k line)) (sym (cond-false _ 1 0 f))
      ]
    where
      line : List ℕ
      line = line_at plan aligns (top plan i) i (i + 1)

      written : List ℕ
      written = drawn_line sheet false above here (length rests) (bytes_in rests)

  -- a line in a row
  pub in-row : (i n : ℕ) (here : List (Option Rectangle)) (texts : List (List ℕ)) (columns : ℕ) → IsOwnerRow g.rows g.columns (rectangles m) (i + 1) here → AreLeft plan (i + 1) n texts → columns ≡ g.columns
      → drawn_line sheet true here here columns texts ≡ line_at plan aligns n (i + 1) (i + 1) ++ (10 ∷ [])
  in-row i n here texts columns over was same =
      line-is n (i + 1) (i + 1) true (sym (eq-eqb (i + 1) (i + 1) refl)) here here over over texts (next-of (i + 1) (i + 1) n texts was) columns same

module _ (plan : Plan) (aligns : List Alignment) where
  -- the lines of a row up to one of them
  abbrev pub lines_below : ℕ → ℕ → List (List ℕ)
  lines_below i y = border_line plan aligns i ++ each y (λ y. line_at plan aligns (top plan i + line_height plan i + y) (i + 1) (i + 1) ∷ [])

  pub first-below : (i : ℕ) → with_newlines (border_line plan aligns i) ≡ with_newlines (lines_below i 0)
  first-below i = ap with_newlines (sym (append-nil (border_line plan aligns i)))

  pub more-below : (i y : ℕ) → with_newlines (lines_below i y) ++ (line_at plan aligns (top plan i + line_height plan i + y) (i + 1) (i + 1) ++ (10 ∷ [])) ≡ with_newlines (lines_below i (y + 1))
  more-below i y =
      let f : ℕ → List (List ℕ) = λ y. line_at plan aligns (top plan i + line_height plan i + y) (i + 1) (i + 1) ∷ [] in
      sym (ended-more (lines_below i y) (line_at plan aligns (top plan i + line_height plan i + y) (i + 1) (i + 1))) ∙ ap with_newlines (append_assoc (border_line plan aligns i) (each y f) (f y) ∙ ap (λ ls. border_line plan aligns i ++ ls) (sym (each-more f y)))

  pub all-below : (i y : ℕ) → y ≡ get_or (heights plan) i 0 → with_newlines (lines_below i y) ≡ with_newlines (lines_of_row plan aligns i)
  all-below i y is = ap (λ k. with_newlines (lines_below i k)) is

  pub more-rows : (i : ℕ) → with_newlines (each i (lines_of_row plan aligns)) ++ with_newlines (lines_of_row plan aligns i) ≡ with_newlines (each (i + 1) (lines_of_row plan aligns))
  more-rows i = sym (flat_map-append (λ line. line ++ (10 ∷ [])) (each i (lines_of_row plan aligns)) (lines_of_row plan aligns i)) ∙ ap with_newlines (sym (each-more (lines_of_row plan aligns) i))

  pub all-rows : (i : ℕ) → i ≡ plan.grid.rows → 0 < plan.grid.rows → 0 < plan.grid.columns → with_newlines (each i (lines_of_row plan aligns)) ++ with_newlines (border_line plan aligns plan.grid.rows) ≡ with_newlines (picture_lines plan aligns)
  all-rows i is high wide =
      ap (λ k. with_newlines (each k (lines_of_row plan aligns)) ++ with_newlines (border_line plan aligns plan.grid.rows)) is
      ∙ sym (flat_map-append (λ line. line ++ (10 ∷ [])) (each plan.grid.rows (lines_of_row plan aligns)) (border_line plan aligns plan.grid.rows))
      ∙ ap with_newlines (sym (cond-false ((plan.grid.rows == 0) || (plan.grid.columns == 0)) [] (each plan.grid.rows (lines_of_row plan aligns) ++ border_line plan aligns plan.grid.rows) (ap₂ (λ x y. x || y) (ne_eqb plan.grid.rows 0 (λ e. omega (arith, e))) (ne_eqb plan.grid.columns 0 (λ e. omega (arith, e))))))

  -- some rows, and those behind them
  later-rows : (k i : ℕ) → (rest : List ℕ) × (with_newlines (each i (lines_of_row plan aligns)) ++ rest ≡ with_newlines (each (i + k) (lines_of_row plan aligns)))
  later-rows zero i = ([], append-nil (with_newlines (each i (lines_of_row plan aligns))) ∙ ap (λ n. with_newlines (each n (lines_of_row plan aligns))) (sym (add-zero i)))
  later-rows (suc k) i =
      let more = later-rows k i in
      let next : (i + k) + 1 ≡ i + suc k = omega arith in (
        more.0 ++ with_newlines (lines_of_row plan aligns (i + k)),
        sym (append_assoc (with_newlines (each i (lines_of_row plan aligns))) more.0 (with_newlines (lines_of_row plan aligns (i + k))))
            ∙ ap (λ (l : List ℕ). l ++ with_newlines (lines_of_row plan aligns (i + k))) more.1 ∙ more-rows (i + k)
            ∙ ap (λ n. with_newlines (each n (lines_of_row plan aligns))) next,
      )

  -- what a picture has behind some of its rows
  pub rest-of : (i : ℕ) → i ≤ plan.grid.rows → 0 < plan.grid.rows → 0 < plan.grid.columns → (rest : List ℕ) × (with_newlines (each i (lines_of_row plan aligns)) ++ rest ≡ with_newlines (picture_lines plan aligns))
  rest-of i within high wide =
      let more = later-rows (plan.grid.rows - i) i in
      let all : i + (plan.grid.rows - i) ≡ plan.grid.rows = omega (arith, within) in (
        more.0 ++ with_newlines (border_line plan aligns plan.grid.rows),
        sym (append_assoc (with_newlines (each i (lines_of_row plan aligns))) more.0 (with_newlines (border_line plan aligns plan.grid.rows)))
            ∙ ap (λ (l : List ℕ). l ++ with_newlines (border_line plan aligns plan.grid.rows)) more.1 ∙ all-rows (i + (plan.grid.rows - i)) all high wide,
      )
