-- The lines of a picture: which is which, how many there are, how wide they are, and that no control character stands in them.
use Rattle.tabled_draw.proofs.Common.{Alignment, AllByRecursion, AreNoControls, Columns, Grid, IsFine, IsInside, IsNoControl, List, None, Option, Plan, Rectangle, Rows, Some, StandsAt, StandsIn, Style, [], add-one, add-zero, aligned, alignment_in, all-append, ap, append_assoc, ap₂, are_none, arith, arms, border, border_line, cases_eq, cases_lt, column_at, common_steps, cond-false, cond-true, cond_both, count_along, differ, drawn_lines, each, edge_at, eqb, eqb-false, get_or, get_or-append-add, get_or_append_left, heights, indent, inl, inr, is_drawn, length, length-append, length-replicate, line_at, line_height, line_width, lines_around, lines_of_row, lines_shown, ltb-false, map, mark, nat_tests, owner_at, picture_lines, place, refl, replicate, room, shown_character, shown_line, shows, shows_in, subst, suc, sum, sum_by_more, sym, take, take_all, text_of_cell, text_width, top, total, true, widths, zero, ℕ, ◌++◌, ◌+◌, ◌-◌, ◌<◌, ◌==◌, ◌||◌, ◌∙◌, ◌∷◌, ◌≡◌, ◌≢◌, ◌≤◌, ◌⊎◌}
use Rattle.std.proofs.Common.{chars}
use borrow.Author.Tests.{ne_eqb}
use Rattle.tabled_draw.proofs.Each.{all-each, get-singles, length-singles, split-each}
use Rattle.tabled_draw.proofs.LawLines.{blank-fine, IsLineOf, level-fine, line-wide, mark-fine}
use Rattle.tabled_grid.proofs.Owners.{AnchorsFit}
use Rattle.std.proofs.lemmas.Bool.{or_right}
use Rattle.tabled_grid.specs.declared.records.axis.Axis.{Axis}
use Rattle.tabled_draw.proofs.Sizes.{length-sizes, start-next}
use Rattle.tabled_draw.specs.Picture.{line_columns}

-- a line is drawn once, or not
pub border-least : (axis : Axis) (style : Style) (g : Grid (List ℕ)) (k : ℕ) → border axis style g k ≤ 1
border-least axis style g k = cond_both (is_drawn (lines_around axis style) (count_along axis g) k) 1 0 (λ size. size ≤ 1) (λ yes. omega arith) (λ no. omega arith)

all-replicate : {A : Type 0} (P : A → Type 0) (n : ℕ) (x : A) → P x → AllByRecursion P (replicate n x)
all-replicate P zero x h = tt
all-replicate P (suc n) x h = (h, all-replicate P n x h)

module _ (plan : Plan) (aligns : List Alignment) where
  -- ---- which line of the picture is which

  abbrev above : ℕ → List ℕ
  above i = line_at plan aligns (top plan i) i (i + 1)

  abbrev row_lines : ℕ → List (List ℕ)
  row_lines i = each (get_or (heights plan) i 0) (λ y. line_at plan aligns (top plan i + line_height plan i + y) (i + 1) (i + 1) ∷ [])

  abbrev rows_below : ℕ → List (List ℕ)
  rows_below i = each i (lines_of_row plan aligns)

  top-next : (i : ℕ) → top plan (i + 1) ≡ top plan i + (line_height plan i + get_or (heights plan) i 0)
  top-next i = let e : top plan (i + 1) ≡ top plan i + (line_height plan i + get_or (heights plan) i 0 + 0) = start-next Rows plan.style plan.grid plan.merged i in omega arith

  length-border : (i : ℕ) → length (border_line plan aligns i) ≡ line_height plan i
  length-border i = length-replicate (line_height plan i) (above i)

  length-row : (i : ℕ) → length (lines_of_row plan aligns i) ≡ line_height plan i + get_or (heights plan) i 0
  length-row i = length-append (border_line plan aligns i) (row_lines i) ∙ ap₂ (λ x y. x + y) (length-border i) (length-singles (λ y. line_at plan aligns (top plan i + line_height plan i + y) (i + 1) (i + 1)) (get_or (heights plan) i 0))

  length-rows : (i : ℕ) → length (rows_below i) ≡ top plan i
  length-rows zero = refl
  length-rows (suc i) = length-append (rows_below i) (lines_of_row plan aligns i) ∙ ap₂ (λ x y. x + y) (length-rows i) (length-row i) ∙ sym (top-next i) ∙ ap (top plan) (add-one i)

  -- a line of the picture
  pub record IsLine (n : ℕ) (row : List ℕ) : Type 0 where
    pub inside : n < length (picture_lines plan aligns)
    pub is : get_or (picture_lines plan aligns) n [] ≡ row

  pub stands-at : (n columns : ℕ) (row text : List ℕ) → IsLine n row → StandsIn row columns text → StandsAt (picture_lines plan aligns) n columns text
  stands-at n columns row text l s = record { inside = l.inside; stands = subst (λ x. StandsIn x columns text) (sym l.is) s }

  module _ (low : 0 < plan.grid.rows) (far : 0 < plan.grid.columns) where
    picture-is : picture_lines plan aligns ≡ rows_below plan.grid.rows ++ border_line plan aligns plan.grid.rows
    picture-is = cond-false ((plan.grid.rows == 0) || (plan.grid.columns == 0)) [] (rows_below plan.grid.rows ++ border_line plan aligns plan.grid.rows) (ap₂ (λ x y. x || y) (ne_eqb plan.grid.rows 0 (λ e. omega (arith, e))) (ne_eqb plan.grid.columns 0 (λ e. omega (arith, e))))

    pub length-picture : length (picture_lines plan aligns) ≡ top plan plan.grid.rows + line_height plan plan.grid.rows
    length-picture = ap length picture-is ∙ length-append (rows_below plan.grid.rows) (border_line plan aligns plan.grid.rows) ∙ ap₂ (λ x y. x + y) (length-rows plan.grid.rows) (length-border plan.grid.rows)

    line-last : line_height plan plan.grid.rows ≡ 1 → IsLine (top plan plan.grid.rows) (above plan.grid.rows)
    line-last drawn =
        let long : length (rows_below plan.grid.rows) ≡ top plan plan.grid.rows = length-rows plan.grid.rows in
        record {
          inside = omega (arith, length-picture, drawn);
          is = ap (λ (xs : List (List ℕ)). get_or xs (top plan plan.grid.rows) []) picture-is
              ∙ ap (λ k. get_or (rows_below plan.grid.rows ++ border_line plan aligns plan.grid.rows) k []) (let e : top plan plan.grid.rows ≡ length (rows_below plan.grid.rows) + 0 = omega (arith, long) in e)
              ∙ get_or-append-add (rows_below plan.grid.rows) (border_line plan aligns plan.grid.rows) 0 []
              ∙ ap (λ k. get_or (replicate k (above plan.grid.rows)) 0 []) drawn;
        }

    line-at : (r y : ℕ) → r < plan.grid.rows → y < line_height plan r + get_or (heights plan) r 0 → IsLine (top plan r + y) (get_or (lines_of_row plan aligns r) y [])
    line-at r y below less =
        let rows = lines_of_row plan aligns in
        let s = split-each rows plan.grid.rows r below in
        let end = border_line plan aligns plan.grid.rows in
        let whole : picture_lines plan aligns ≡ rows_below r ++ (rows r ++ (s.rest ++ end)) = picture-is ∙ ap (λ xs. xs ++ end) s.is ∙ append_assoc (rows_below r) (rows r ++ s.rest) end ∙ ap (λ xs. rows_below r ++ xs) (append_assoc (rows r) s.rest end) in
        let before : length (rows_below r) ≡ top plan r = length-rows r in
        let here : length (rows r) ≡ line_height plan r + get_or (heights plan) r 0 = length-row r in
        record {
          inside = omega (arith, ap length whole, length-append (rows_below r) (rows r ++ (s.rest ++ end)), length-append (rows r) (s.rest ++ end));
          is = ap (λ (xs : List (List ℕ)). get_or xs (top plan r + y) []) whole ∙ ap (λ k. get_or (rows_below r ++ (rows r ++ (s.rest ++ end))) (k + y) []) (sym before) ∙ get_or-append-add (rows_below r) (rows r ++ (s.rest ++ end)) y [] ∙ get_or_append_left (rows r) (s.rest ++ end) [] y (omega arith);
        }

    -- the line above a row, or below the last one
    pub line-above : (i : ℕ) → i ≤ plan.grid.rows → line_height plan i ≡ 1 → IsLine (top plan i) (above i)
    line-above i h drawn = elim (cases_lt i plan.grid.rows) [
      | inl less ↦ subst (λ n. IsLine n (above i)) (add-zero (top plan i)) (subst (λ x. IsLine (top plan i + 0) x) first (line-at i 0 less (omega (arith, drawn))))
      | inr end ↦ let same : plan.grid.rows ≡ i = omega arith in subst (λ k. IsLine (top plan k) (above k)) same (line-last (ap (line_height plan) same ∙ drawn))
    ]
      where
        first : get_or (lines_of_row plan aligns i) 0 [] ≡ above i
        first = ap (λ k. get_or (replicate k (above i) ++ row_lines i) 0 []) drawn

    -- a line of a row
    pub line-in : (i n : ℕ) → i < plan.grid.rows → top plan i + line_height plan i ≤ n → n < top plan (i + 1) → IsLine n (line_at plan aligns n (i + 1) (i + 1))
    line-in i n h past below =
        let y = n - top plan i - line_height plan i in
        let less : y < get_or (heights plan) i 0 = omega (arith, top-next i) in
        let at : top plan i + (line_height plan i + y) ≡ n = omega arith in
        let at' : top plan i + line_height plan i + y ≡ n = omega arith in
        let row : get_or (lines_of_row plan aligns i) (line_height plan i + y) [] ≡ line_at plan aligns n (i + 1) (i + 1) =
        ap (λ k. get_or (lines_of_row plan aligns i) (k + y) []) (sym (length-border i))
        ∙ get_or-append-add (border_line plan aligns i) (row_lines i) y []
        ∙ get-singles (λ y. line_at plan aligns (top plan i + line_height plan i + y) (i + 1) (i + 1)) (get_or (heights plan) i 0) y [] less
        ∙ ap (λ k. line_at plan aligns k (i + 1) (i + 1)) at' in
        subst (λ x. IsLine n x) row (subst (λ k. IsLine k (get_or (lines_of_row plan aligns i) (line_height plan i + y) [])) at (line-at i (line_height plan i + y) h (omega arith)))

  -- the n-th line is the line above a row, or a line of one, among those of some rows
  pub data Where (a h n : ℕ) : Type 0 where
    line : (r : ℕ) → a < r → r < a + h → line_height plan r ≡ 1 → top plan r ≡ n → Where a h n
    text : (r : ℕ) → a ≤ r → r < a + h → top plan r + line_height plan r ≤ n → n < top plan (r + 1) → Where a h n

  pub locate : (a h n : ℕ) → a + h ≤ plan.grid.rows → top plan a + line_height plan a ≤ n → n < top plan (a + h) → Where a h n
  locate a zero n end low high = let e : top plan (a + 0) ≡ top plan a = ap (top plan) (add-zero a) in absurd (omega arith)
  locate a (suc h) n end low high = elim (cases_lt n (top plan (a + h))) [
    | inl less ↦ wider (locate a h n (omega arith) low less)
    | inr more ↦ here (cases_eq h 0) (cases_lt n (top plan (a + h) + line_height plan (a + h))) more
  ]
    where
      past : n < top plan (a + h + 1)
      past = let e : top plan (a + suc h) ≡ top plan (a + h + 1) = ap (top plan) (let same : a + suc h ≡ a + h + 1 = omega arith in same) in omega arith

      wider : Where a h n → Where a (suc h) n
      wider (line r x y b e) = line r x (omega arith) b e
      wider (text r x y e f) = text r x (omega arith) e f

      small : line_height plan (a + h) ≤ 1
      small = border-least Rows plan.style plan.grid (a + h)

      here : (h ≡ 0) ⊎ (h ≢ 0) → (n < top plan (a + h) + line_height plan (a + h)) ⊎ (top plan (a + h) + line_height plan (a + h) ≤ n) → top plan (a + h) ≤ n → Where a (suc h) n
      here (inl none) (inl e) least = let same : top plan (a + h) + line_height plan (a + h) ≡ top plan a + line_height plan a = ap (λ k. top plan k + line_height plan k) (let z : a + h ≡ a = omega arith in z) in absurd (omega arith)
      here (inr some) (inl e) least = line (a + h) (omega arith) (omega arith) (omega (arith, small)) (omega (arith, small))
      here _ (inr later) least = text (a + h) (omega arith) (omega arith) later past

  -- what is said of every line
  pub all-lines : (P : List ℕ → Type 0) → ((n u d : ℕ) → 0 < plan.grid.columns → IsLineOf plan.grid.rows u d → P (line_at plan aligns n u d)) → AllByRecursion P (picture_lines plan aligns)
  all-lines P each-line = with-or-without-cells (cases_eq plan.grid.rows 0) (cases_eq plan.grid.columns 0)
    where
      none : ((plan.grid.rows == 0) || (plan.grid.columns == 0)) ≡ true → AllByRecursion P (picture_lines plan aligns)
      none t = subst (AllByRecursion P) (sym (cond-true ((plan.grid.rows == 0) || (plan.grid.columns == 0)) [] (rows_below plan.grid.rows ++ border_line plan aligns plan.grid.rows) t)) tt

      some : 0 < plan.grid.rows → 0 < plan.grid.columns → AllByRecursion P (picture_lines plan aligns)
      some high wide = subst (AllByRecursion P) (sym (picture-is high wide)) (all-append P (rows_below plan.grid.rows) (border_line plan aligns plan.grid.rows) (all-each P (lines_of_row plan aligns) plan.grid.rows row) (over plan.grid.rows (omega arith)))
        where
          over : (i : ℕ) → i ≤ plan.grid.rows → AllByRecursion P (border_line plan aligns i)
          over i within = all-replicate P (line_height plan i) (above i) (each-line (top plan i) i (i + 1) wide (record { some = high; low = omega arith; high = within; next = inr refl }))

          row : (i : ℕ) → i < plan.grid.rows → AllByRecursion P (lines_of_row plan aligns i)
          row i less = all-append P (border_line plan aligns i) (row_lines i) (over i (omega (arith, less))) (all-each P (λ y. line_at plan aligns (top plan i + line_height plan i + y) (i + 1) (i + 1) ∷ []) (get_or (heights plan) i 0) (λ y _. (each-line (top plan i + line_height plan i + y) (i + 1) (i + 1) wide (record { some = high; low = omega arith; high = omega (arith, less); next = inl refl }), tt)))

      with-or-without-cells : (plan.grid.rows ≡ 0) ⊎ (plan.grid.rows ≢ 0) → (plan.grid.columns ≡ 0) ⊎ (plan.grid.columns ≢ 0) → AllByRecursion P (picture_lines plan aligns)
      with-or-without-cells (inl e) _ = none (ap (λ n. (n == 0) || (plan.grid.columns == 0)) e)
      with-or-without-cells _ (inl e) = none (ap (λ n. (plan.grid.rows == 0) || (n == 0)) e ∙ or_right (plan.grid.rows == 0) true refl)
      with-or-without-cells (inr high) (inr wide) = some (omega (arith, high)) (omega (arith, wide))

module _ (plan : Plan) (aligns : List Alignment) (fine : IsFine plan.style) (fit : AnchorsFit plan.grid.rows plan.grid.columns plan.merged) where
  pub equally-wide : AllByRecursion (λ line. text_width line ≡ line_columns plan) (picture_lines plan aligns)
  equally-wide = all-lines plan aligns (λ line. text_width line ≡ line_columns plan) (λ n u d wide line. line-wide plan aligns fine fit n u d line wide)

-- ---- how many lines there are

total-both : (f h : ℕ → ℕ) (n : ℕ) → total n (λ i. f i + h i + 0) ≡ total n f + total n h
total-both f h zero = refl
total-both f h (suc n) = let so_far : total n (λ i. f i + h i + 0) ≡ total n f + total n h = total-both f h n in omega arith

total-sum : (s : List ℕ) (n : ℕ) → n ≤ length s → total n (λ i. get_or s i 0) ≡ sum (take n s)
total-sum s zero h = refl
total-sum s (suc n) h =
    let so_far : total n (λ i. get_or s i 0) ≡ sum (take n s) = total-sum s n (omega arith) in
    let more : sum (take (n + 1) s) ≡ sum (take n s) + get_or s n 0 = sum_by_more (λ n. n) s n 0 (omega arith) in
    let same : sum (take (n + 1) s) ≡ sum (take (suc n) s) = ap (λ k. sum (take k s)) (add-one n) in
    omega arith

pub lines-number : (plan : Plan) (aligns : List Alignment) → IsInside plan.grid (place 0 0) → length (picture_lines plan aligns) ≡ sum (heights plan) + drawn_lines plan
lines-number plan aligns some =
    let high : length (heights plan) ≡ plan.grid.rows = length-sizes Rows plan.style plan.grid plan.merged in
    let long : length (picture_lines plan aligns) ≡ top plan plan.grid.rows + line_height plan plan.grid.rows = length-picture plan aligns some.row some.col in
    let both : top plan plan.grid.rows ≡ total plan.grid.rows (line_height plan) + total plan.grid.rows (λ i. get_or (heights plan) i 0) = total-both (line_height plan) (λ i. get_or (heights plan) i 0) plan.grid.rows in
    let all : total plan.grid.rows (λ i. get_or (heights plan) i 0) ≡ sum (heights plan) = total-sum (heights plan) plan.grid.rows (omega (arith, high)) ∙ ap sum (take_all plan.grid.rows (heights plan) (omega (arith, high))) in
    let last : drawn_lines plan ≡ total plan.grid.rows (line_height plan) + line_height plan plan.grid.rows = ap (λ n. total n (line_height plan)) (add-one plan.grid.rows) in
    omega arith

pub lines-none : (plan : Plan) (aligns : List Alignment) → (plan.grid.rows ≡ 0) ⊎ (plan.grid.columns ≡ 0) → picture_lines plan aligns ≡ []
lines-none plan aligns none = cond-true ((plan.grid.rows == 0) || (plan.grid.columns == 0)) [] _ (elim none [
  | inl e ↦ ap (λ n. (n == 0) || (plan.grid.columns == 0)) e
  | inr e ↦ ap (λ n. (plan.grid.rows == 0) || (n == 0)) e ∙ or_right (plan.grid.rows == 0) true refl
])

-- ---- no character of a picture is a control character

shown-fine : (c : ℕ) → IsNoControl (shown_character c)
shown-fine c = grind (arith, nat_tests, ltb-false, eqb-false)

all-shown : (cs : List ℕ) → AreNoControls (map shown_character cs)
all-shown [] = tt
all-shown (c ∷ cs) = (shown-fine c, all-shown cs)

all-texts : (lines : List (List ℕ)) → AllByRecursion AreNoControls (map shown_line lines)
all-texts [] = tt
all-texts (x ∷ lines) = (all-shown (chars x), all-texts lines)

line-fine : (lines : List (List ℕ)) (k : ℕ) → AllByRecursion AreNoControls lines → AreNoControls (get_or lines k [])
line-fine lines k h1 = grind (arith, common_steps, nat_tests)

module _ (plan : Plan) (aligns : List Alignment) (fine : IsFine plan.style) where
  all-aligned : (alignment : Alignment) (space : ℕ) (shown : List ℕ) → AreNoControls shown → AreNoControls (aligned alignment space shown)
  all-aligned alignment space shown h =
      let before = indent alignment (space - text_width shown) in
      all-append IsNoControl (replicate (before + 1) 32) (shown ++ replicate (space - text_width shown - before + 1) 32) (all-replicate IsNoControl (before + 1) 32 blank-fine.plain) (all-append IsNoControl shown (replicate (space - text_width shown - before + 1) 32) h (all-replicate IsNoControl (space - text_width shown - before + 1) 32 blank-fine.plain))

  all-shows : (n : ℕ) (o : Rectangle) → AreNoControls (shows plan aligns n o)
  all-shows n o = all-aligned (alignment_in aligns o.first.col) (room Columns (line_width plan) (widths plan) o.first.col o.size.width) _ (line-fine (lines_shown (text_of_cell plan.grid o.first)) (n - top plan o.first.row - line_height plan o.first.row) (all-texts _))

  all-shows_in : (n j : ℕ) (a : Option Rectangle) → AreNoControls (shows_in plan aligns n j a)
  all-shows_in n j None = tt
  all-shows_in n j (Some o) = cond_both (o.first.col == j) (shows plan aligns n o) [] AreNoControls (λ begins. all-shows n o) (λ passes. tt)

  abbrev whose : ℕ → ℕ → Option Rectangle
  whose i j = owner_at plan i j

  all-edge : (u d j : ℕ) → AreNoControls (edge_at plan u d j)
  all-edge u d j =
      let meeting = arms (whose u j) (whose u (j + 1)) (whose d j) (whose d (j + 1)) in
      let marks = replicate (line_width plan j) (mark plan.style (eqb u d) meeting) in
      cond_both (are_none meeting) [] marks AreNoControls (λ none. tt) (λ some. all-replicate IsNoControl (line_width plan j) _ (mark-fine plan.style fine (eqb u d) meeting).plain)

  all-column : (n u d j : ℕ) → AreNoControls (column_at plan aligns n u d j)
  all-column n u d j =
      let level = replicate (get_or (widths plan) j 0 + 2) plan.style.horizontal in
      cond_both (differ (whose u (j + 1)) (whose d (j + 1))) level (shows_in plan aligns n j (whose u (j + 1))) AreNoControls
      (λ apart. all-replicate IsNoControl (get_or (widths plan) j 0 + 2) _ (level-fine plan.style fine).plain)
      (λ one. all-shows_in n j (whose u (j + 1)))

  all-line : (n u d : ℕ) → AreNoControls (line_at plan aligns n u d)
  all-line n u d =
      let part : ℕ → List ℕ = λ j. edge_at plan u d j ++ column_at plan aligns n u d j in
      all-append IsNoControl (each plan.grid.columns part) (edge_at plan u d plan.grid.columns)
      (all-each IsNoControl part plan.grid.columns (λ j _. all-append IsNoControl (edge_at plan u d j) (column_at plan aligns n u d j) (all-edge u d j) (all-column n u d j)))
      (all-edge u d plan.grid.columns)

  pub no-controls : AllByRecursion AreNoControls (picture_lines plan aligns)
  no-controls = all-lines plan aligns AreNoControls (λ n u d _ _. all-line n u d)
