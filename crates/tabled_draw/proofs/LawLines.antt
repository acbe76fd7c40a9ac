-- A line of a picture, from its left edge to its right one.
use Rattle.tabled_draw.proofs.Common.{Alignment, AllByRecursion, Arms, Bool, Columns, IsFine, IsFineMark, List, None, Option, Plan, Rectangle, Some, StandsIn, Style, [], add-one, add-zero, aligned, alignment_in, ap, append-nil, append_assoc, ap₂, are_none, arith, arms, cases_Bool, cases_lt, column_at, cond, cond-false, cond-true, cond_both, differ, each, edge_at, eq-eqb, eqb, false, false_from_ne_true, get_or, indent, inl, inr, left, length, length-replicate, line_at, line_height, line_width, lines_shown, mark, ne_eqb, none-some, owner_at, place, refl, replicate, room, shows, shows_in, subst, suc, sym, text_of_cell, text_width, top, true, widest, widths, zero, ℕ, ◌++◌, ◌+◌, ◌-◌, ◌<◌, ◌∙◌, ◌∷◌, ◌≡◌, ◌≢◌, ◌≤◌, ◌⊎◌, false≢true}
use Rattle.std.proofs.lemmas.Bool.{true_from_ne_false}
use Rattle.tabled_draw.specs.Borders.{number}
use Rattle.tabled_draw.proofs.Arms.{differ-none, differ-self, none-one, none-parts}
use Rattle.tabled_draw.specs.declared.alignment.Alignment.TheVariants.{Left, Center, Right}
use Rattle.tabled_draw.proofs.Each.{each-more, split-each}
use Rattle.tabled_draw.proofs.Owned.{Owns, owner-both, owner-exists, owner-left, owner-owns, owner-some}
use Rattle.tabled_grid.proofs.Owners.{AnchorsFit}
use Rattle.tabled_draw.proofs.Shares.{room-end}
use Rattle.tabled_draw.proofs.Sizes.{line-least, room-enough, start-next}
use Rattle.tabled_draw.proofs.Widths.{IsPlain, all-marks, columns-after_blanks, columns-append, columns-blanks, columns-nil, columns-replicate, plain-after_blanks, plain-append, plain-blanks, plain-marks, plain-nil}
use Rattle.unicode_width.proofs.Computing.{unicode_width}
use Rattle.tabled_draw.specs.Picture.{line_columns}

-- ---- the characters of a style

pub blank-fine : IsFineMark 32
unfolding unicode_width
blank-fine = record { wide = refl; plain = record { above = omega arith; no_delete = λ e. omega (arith, e); outside = inl (omega arith) } }

fine-of : (cs : List ℕ) → AllByRecursion IsFineMark cs → (k : ℕ) → IsFineMark (get_or cs k 32)
fine-of [] all k = blank-fine
fine-of (c ∷ cs) all zero = all.0
fine-of (c ∷ cs) all (suc k) = fine-of cs all.1 k

pub level-fine : (style : Style) → IsFine style → IsFineMark style.horizontal
level-fine style fine = fine.0

pub mark-fine : (style : Style) → IsFine style → (is_row : Bool) (a : Arms) → IsFineMark (mark style is_row a)
mark-fine style fine true a = fine.1.0
mark-fine style fine false a = fine-of style.corners fine.1.1 (number a)

-- ---- a line of text, aligned

indent-within : (alignment : Alignment) (free : ℕ) → indent alignment free ≤ free
indent-within Left free = omega arith
indent-within Center free = omega arith
indent-within Right free = omega arith

pub aligned-wide : (alignment : Alignment) (space : ℕ) (line : List ℕ) → text_width line ≤ space → text_width (aligned alignment space line) ≡ space + 2
aligned-wide alignment space line within =
    let free = space - text_width line in
    let before = indent alignment free in
    let less : before ≤ free = indent-within alignment free in
    let a : text_width (replicate (before + 1) 32 ++ (line ++ replicate (free - before + 1) 32)) ≡ before + 1 + text_width (line ++ replicate (free - before + 1) 32) = columns-after_blanks (before + 1) (line ++ replicate (free - before + 1) 32) in
    let b : text_width (line ++ replicate (free - before + 1) 32) ≡ text_width line + text_width (replicate (free - before + 1) 32) = columns-append line (replicate (free - before + 1) 32) (plain-blanks (free - before + 1)) in
    let d : text_width (replicate (free - before + 1) 32) ≡ free - before + 1 = columns-blanks (free - before + 1) in
    a ∙ sum (text_width (line ++ replicate (free - before + 1) 32)) (text_width line) (text_width (replicate (free - before + 1) 32)) before within b d less
  where
    sum : (y l z before : ℕ) → l ≤ space → y ≡ l + z → z ≡ space - l - before + 1 → before ≤ space - l → before + 1 + y ≡ space + 2
    sum y l z before within b d less = omega arith

pub aligned-plain : (alignment : Alignment) (space : ℕ) (line : List ℕ) → IsPlain (aligned alignment space line)
aligned-plain alignment space line =
    let free = space - text_width line in
    let before = indent alignment free in
    plain-after_blanks before (line ++ replicate (free - before + 1) 32)

-- ---- which lines there are

-- row u, or the line between the rows u and d, which count from 1
pub record IsLineOf (rows u d : ℕ) : Type 0 where
  pub some : 0 < rows
  pub low : 0 < d
  pub high : u ≤ rows
  pub next : (d ≡ u) ⊎ (d ≡ u + 1)

-- a line with characters of borders right before and right behind some others
pub record Framed (row : List ℕ) (columns before behind : ℕ) (text : List ℕ) : Type 0 where
  pub first : List ℕ
  pub last : List ℕ
  pub first_long : length first ≡ before
  pub last_long : length last ≡ behind
  pub first_marks : AllByRecursion IsFineMark first
  pub last_marks : AllByRecursion IsFineMark last
  pub stands : StandsIn row columns (first ++ (text ++ last))

module _ (plan : Plan) (aligns : List Alignment) (fine : IsFine plan.style) (fit : AnchorsFit plan.grid.rows plan.grid.columns plan.merged) where
  -- what an owner shows is as wide as its room, with a blank at both sides
  shows-wide : (n i j : ℕ) (o : Rectangle) → owner_at plan i j ≡ Some o → text_width (shows plan aligns n o) ≡ room Columns (line_width plan) (widths plan) o.first.col o.size.width + 2
  shows-wide n i j o e =
      let s = owner-some e in
      let lines = lines_shown (text_of_cell plan.grid o.first) in
      let k = n - top plan o.first.row - line_height plan o.first.row in
      let text = get_or lines k [] in
      let wide = room Columns (line_width plan) (widths plan) o.first.col o.size.width in
      let enough : widest (text_of_cell plan.grid o.first) ≤ wide = rw s.is (room-enough Columns plan.style plan.grid plan.merged fit (place s.row s.col) s.below s.right) in
      let within : text_width text ≤ widest (text_of_cell plan.grid o.first) = line-least lines 0 k in
      aligned-wide (alignment_in aligns o.first.col) wide text (omega arith)

  module _ (n u d : ℕ) (line : IsLineOf plan.grid.rows u d) where
    abbrev written : List ℕ
    written = line_at plan aligns n u d

    -- the columns between the lines at both sides of a column
    abbrev inside_of : ℕ → ℕ
    inside_of j = get_or (widths plan) j 0 + 2

    -- what a cell that begins in a column shows stands between the lines at its sides
    abbrev ShowsFramed : ℕ → Rectangle → Type 0
    ShowsFramed j o = Framed written (left plan j) (line_width plan j) (line_width plan (j + o.size.width)) (shows plan aligns n o)

    abbrev up : ℕ → Option Rectangle
    up j = owner_at plan u j

    abbrev down : ℕ → Option Rectangle
    down j = owner_at plan d j

    abbrev meeting_at : ℕ → Arms
    meeting_at j = arms (up j) (up (j + 1)) (down j) (down (j + 1))

    -- no arm at the edge before a column
    abbrev joint : ℕ → Bool
    joint j = are_none (meeting_at j)

    abbrev mark_at : ℕ → ℕ
    mark_at j = mark plan.style (eqb u d) (meeting_at j)

    abbrev edge_of : ℕ → List ℕ
    edge_of j = edge_at plan u d j

    abbrev column_of : ℕ → List ℕ
    column_of j = column_at plan aligns n u d j

    abbrev part : ℕ → List ℕ
    part j = edge_of j ++ column_of j

    -- in a column of the table one of the two places has an owner
    some-one : (k : ℕ) → 0 < k → k ≤ plan.grid.columns → up k ≡ None → down k ≡ None → ⊥
    some-one k low high none none' = elim (cases_lt 0 u) [
      | inl less ↦ owner-exists plan.merged u k less line.high low high none
      | inr first ↦ elim line.next [ inl same ↦ omega (arith, first, same, line.low) | inr more ↦ owner-exists plan.merged d k line.low (omega (arith, first, more, line.some)) low high none' ]
    ]

    joint-from : (j : ℕ) (o : Rectangle) → up j ≡ Some o → down j ≡ Some o → up (j + 1) ≡ Some o → down (j + 1) ≡ Some o → joint j ≡ true
    joint-from j o e f e' f' = none-one (up j) (up (j + 1)) (down j) (down (j + 1)) o e e' f f'

    -- one owner is all round where no arm is
    one-round : (j : ℕ) → j ≤ plan.grid.columns → 0 < plan.grid.columns → joint j ≡ true → (o : Rectangle) × (up j ≡ Some o) × (up (j + 1) ≡ Some o) × (down j ≡ Some o) × (down (j + 1) ≡ Some o)
    one-round j high wide t =
        let parts = none-parts (meeting_at j) t in
        let a = owner-both fit u j u (j + 1) parts.0 (λ x y. some-two x y parts) in
        let b = owner-both fit u j d j parts.3 (λ x y. none-some a.0 (sym x ∙ a.1)) in
        let c = owner-both fit d j d (j + 1) parts.2 (λ x y. none-some b.0 (sym x ∙ b.2)) in
        let ab : Some a.0 ≡ Some b.0 = sym a.1 ∙ b.1 in
        let bc : Some b.0 ≡ Some c.0 = sym b.2 ∙ c.1 in
        (a.0, a.1, a.2, b.2 ∙ sym ab, c.2 ∙ sym bc ∙ sym ab)
      where
        below : (k : ℕ) → differ (up k) (down k) ≡ false → up k ≡ None → down k ≡ None
        below k same none = differ-none (down k) (sym (ap (λ a. differ a (down k)) none) ∙ same)

        some-two : up j ≡ None → up (j + 1) ≡ None → ((differ (up j) (up (j + 1)) ≡ false) × (differ (up (j + 1)) (down (j + 1)) ≡ false) × (differ (down j) (down (j + 1)) ≡ false) × (differ (up j) (down j) ≡ false)) → ⊥
        some-two x y parts = elim (cases_lt j plan.grid.columns) [
          | inl less ↦ some-one (j + 1) (omega arith) (omega (arith, less)) y (below (j + 1) parts.1 y)
          | inr end ↦ some-one j (omega (arith, end, wide)) high x (below j parts.3 x)
        ]

    -- where no owner is all round an edge, an arm is
    not-joint : (j : ℕ) → j ≤ plan.grid.columns → 0 < plan.grid.columns → ((o : Rectangle) → up j ≡ Some o → up (j + 1) ≡ Some o → down j ≡ Some o → down (j + 1) ≡ Some o → ⊥) → joint j ≡ false
    not-joint j high wide never = false_from_ne_true (joint j) (λ t. (let one = one-round j high wide t in never one.0 one.1 one.2 one.3 one.4))

    edge-none : (j : ℕ) → joint j ≡ true → edge_of j ≡ []
    edge-none j t = cond-true (joint j) [] (replicate (line_width plan j) (mark_at j)) t

    edge-is : (j : ℕ) → joint j ≡ false → edge_of j ≡ replicate (line_width plan j) (mark_at j)
    edge-is j f = cond-false (joint j) [] (replicate (line_width plan j) (mark_at j)) f

    edge-wide : (j : ℕ) → joint j ≡ false → text_width (edge_of j) ≡ line_width plan j
    edge-wide j f = ap text_width (edge-is j f) ∙ columns-replicate (line_width plan j) (mark_at j) (mark-fine plan.style fine (eqb u d) (meeting_at j))

    edge-plain : (j : ℕ) → IsPlain (edge_of j)
    edge-plain j =
        let marks = replicate (line_width plan j) (mark_at j) in
        cond_both (joint j) [] marks IsPlain (λ none. plain-nil) (λ some. plain-marks marks (all-marks (line_width plan j) (mark_at j) (mark-fine plan.style fine (eqb u d) (meeting_at j))))

    column-plain : (j : ℕ) → IsPlain (column_of j)
    column-plain j =
        let level = replicate (inside_of j) plan.style.horizontal in
        cond_both (differ (up (j + 1)) (down (j + 1))) level (shows_in plan aligns n j (up (j + 1))) IsPlain
        (λ apart. plain-marks level (all-marks (inside_of j) plan.style.horizontal (level-fine plan.style fine)))
        (λ one. inside (up (j + 1)))
      where
        inside : (p : Option Rectangle) → IsPlain (shows_in plan aligns n j p)
        inside None = plain-nil
        inside (Some o) = cond_both (eqb o.first.col j) (shows plan aligns n o) [] IsPlain
            (λ begins. aligned-plain (alignment_in aligns o.first.col) (room Columns (line_width plan) (widths plan) o.first.col o.size.width) (get_or (lines_shown (text_of_cell plan.grid o.first)) (n - top plan o.first.row - line_height plan o.first.row) []))
            (λ passes. plain-nil)

    part-plain : (j : ℕ) → IsPlain (part j)
    part-plain j = plain-append (edge_of j) (column_of j) (edge-plain j) (column-plain j)

    -- a border between two owners
    column-apart : (j : ℕ) → differ (up (j + 1)) (down (j + 1)) ≡ true → column_of j ≡ replicate (inside_of j) plan.style.horizontal
    column-apart j t = cond-true (differ (up (j + 1)) (down (j + 1))) (replicate (inside_of j) plan.style.horizontal) (shows_in plan aligns n j (up (j + 1))) t

    column-one : (j : ℕ) (o : Rectangle) → up (j + 1) ≡ Some o → down (j + 1) ≡ Some o → column_of j ≡ cond (eqb o.first.col j) (shows plan aligns n o) []
    column-one j o e f = cond-false (differ (up (j + 1)) (down (j + 1))) (replicate (inside_of j) plan.style.horizontal) (shows_in plan aligns n j (up (j + 1))) (ap₂ differ e f ∙ differ-self (Some o)) ∙ ap (shows_in plan aligns n j) e

    column-shows : (j : ℕ) (o : Rectangle) → up (j + 1) ≡ Some o → down (j + 1) ≡ Some o → o.first.col ≡ j → column_of j ≡ shows plan aligns n o
    column-shows j o e f first = column-one j o e f ∙ cond-true _ (shows plan aligns n o) [] (eq-eqb o.first.col j first)

    column-none : (j : ℕ) (o : Rectangle) → up (j + 1) ≡ Some o → down (j + 1) ≡ Some o → o.first.col ≢ j → column_of j ≡ []
    column-none j o e f later = column-one j o e f ∙ cond-false _ (shows plan aligns n o) [] (ne_eqb o.first.col j later)

    -- how far a line has come: to an edge, or to the right edge of what it shows
    data Reached (j w : ℕ) : Type 0 where
      edge : joint j ≡ false → w ≡ left plan j → Reached j w
      inside : (o : Rectangle) → up j ≡ Some o → down j ≡ Some o → up (j + 1) ≡ Some o → down (j + 1) ≡ Some o → w ≡ left plan (o.first.col + o.size.width) → Reached j w

    -- past a column that one owner has above and below
    past : (j w : ℕ) (o : Rectangle) → up (j + 1) ≡ Some o → down (j + 1) ≡ Some o → w ≡ left plan (o.first.col + o.size.width) → Reached (j + 1) w
    past j w o e f is =
        let a = owner-owns fit e in
        let b = owner-owns fit f in
        elim (cases_lt (j + 1) (o.first.col + o.size.width)) [
          | inl more ↦ inside o e f (a.all u (j + 1 + 1) a.top a.bottom (omega (arith, a.left)) (omega arith)) (b.all d (j + 1 + 1) b.top b.bottom (omega (arith, b.left)) (omega arith)) is
          | inr last ↦
              let same : o.first.col + o.size.width ≡ j + 1 = omega (arith, a.right) in
              edge (ends same (omega (arith, a.lies.1.right, same))) (is ∙ ap (left plan) same)
        ]
      where
        ends : o.first.col + o.size.width ≡ j + 1 → j + 1 ≤ plan.grid.columns → joint (j + 1) ≡ false
        ends last within = not-joint (j + 1) within (omega (arith, within)) (λ p at next at' next'. (
            let far = owner-owns fit (next ∙ sym at ∙ e) in
            omega (arith, far.right)))

    columns-part : (j x y : ℕ) → text_width (edge_of j) ≡ x → text_width (column_of j) ≡ y → text_width (part j) ≡ x + y
    columns-part j x y e f = columns-append (edge_of j) (column_of j) (column-plain j) ∙ ap₂ (λ x y. x + y) e f

    more : (j w : ℕ) → j < plan.grid.columns → Reached j w → Reached (j + 1) (w + text_width (part j))
    more j w less (inside o e f e' f' is) =
        let a = owner-owns fit e in
        let none : text_width (part j) ≡ 0 = columns-part j 0 0 (ap text_width (edge-none j (joint-from j o e f e' f')) ∙ columns-nil) (ap text_width (column-none j o e' f' (λ same. omega (arith, a.left, same))) ∙ columns-nil) in
        past j (w + text_width (part j)) o e' f' (ap (λ x. w + x) none ∙ add-zero w ∙ is)
    more j w less (edge apart is) = past-border (cases_Bool (differ (up (j + 1)) (down (j + 1))))
      where
        first : text_width (edge_of j) ≡ line_width plan j
        first = edge-wide j apart

        past-border : (differ (up (j + 1)) (down (j + 1)) ≡ true) ⊎ (differ (up (j + 1)) (down (j + 1)) ≡ false) → Reached (j + 1) (w + text_width (part j))
        past-border (inl two) =
            let wide : text_width (part j) ≡ line_width plan j + (inside_of j) = columns-part j (line_width plan j) (inside_of j) first (ap text_width (column-apart j two) ∙ columns-replicate (inside_of j) plan.style.horizontal (level-fine plan.style fine)) in
            let to : left plan (j + 1) ≡ left plan j + (line_width plan j + get_or (widths plan) j 0 + 2) = start-next Columns plan.style plan.grid plan.merged j in
            edge (not-joint (j + 1) (omega (arith, less)) (omega (arith, less)) (λ o e e' f f'. false≢true (sym (ap₂ differ e f ∙ differ-self (Some o)) ∙ two))) (omega (arith, wide, to, is))
        past-border (inr one) =
            let both = owner-both fit u (j + 1) d (j + 1) one (some-one (j + 1) (omega arith) (omega (arith, less))) in
            at both.0 both.1 both.2 (owner-owns fit both.1) (owner-owns fit both.2) (cases_lt both.0.first.col j)
          where
            at : (o : Rectangle) → up (j + 1) ≡ Some o → down (j + 1) ≡ Some o → Owns plan.grid.rows plan.grid.columns plan.merged u (j + 1) o → Owns plan.grid.rows plan.grid.columns plan.merged d (j + 1) o → (o.first.col < j) ⊎ (j ≤ o.first.col) → Reached (j + 1) (w + text_width (part j))
            at o e f a b (inl before) =
                let x = a.all u j a.top a.bottom before (omega (arith, a.right)) in
                let y = b.all d j b.top b.bottom before (omega (arith, b.right)) in
                absurd (false≢true (sym apart ∙ joint-from j o x y e f))
            at o e f a b (inr here) =
                let col : o.first.col ≡ j = omega (arith, a.left) in
                let wide : text_width (part j) ≡ line_width plan j + (room Columns (line_width plan) (widths plan) o.first.col o.size.width + 2) = columns-part j (line_width plan j) _ first (ap text_width (column-shows j o e f col) ∙ shows-wide n u (j + 1) o e) in
                let to : left plan (o.first.col + o.size.width) ≡ left plan o.first.col + (line_width plan o.first.col + room Columns (line_width plan) (widths plan) o.first.col o.size.width + 2) = room-end Columns (line_width plan) (widths plan) o.first.col o.size.width a.lies.0.width in
                let same : left plan o.first.col ≡ left plan j = ap (left plan) col in
                let line : line_width plan o.first.col ≡ line_width plan j = ap (line_width plan) col in
                past j (w + text_width (part j)) o e f (omega (arith, wide, to, is, same, line))

    module _ (wide : 0 < plan.grid.columns) where
      reached : (j : ℕ) → j ≤ plan.grid.columns → Reached j (text_width (each j part))
      reached zero h = edge (not-joint 0 (omega arith) wide (λ o e. absurd (none-some o (sym (owner-left plan.grid.rows plan.grid.columns plan.merged u) ∙ e)))) columns-nil
      reached (suc j) h =
          let so_far : Reached j (text_width (each j part)) = reached j (omega arith) in
          let next_one : Reached (j + 1) (text_width (each j part) + text_width (part j)) = more j (text_width (each j part)) (omega arith) so_far in
          subst (λ k. Reached k (text_width (each j part ++ part j))) (add-one j) (subst (λ w. Reached (j + 1) w) (sym (columns-append (each j part) (part j) (part-plain j))) next_one)

      -- at the right edge of the table no owner reaches over
      apart-last : joint plan.grid.columns ≡ false
      apart-last = not-joint plan.grid.columns (omega arith) wide (λ o at next at' next'. (let far = owner-owns fit next in omega (arith, far.right, far.lies.1.right)))

      -- where an arm is at an edge, a line has come to that edge
      reached-edge : (j : ℕ) → j ≤ plan.grid.columns → joint j ≡ false → text_width (each j part) ≡ left plan j
      reached-edge j h apart = elim (reached j h) [ edge _ is ↦ is | inside o e f e' f' is ↦ absurd (false≢true (sym apart ∙ joint-from j o e f e' f')) ]

      pub line-wide : text_width written ≡ line_columns plan
      line-wide = columns-append (each plan.grid.columns part) (edge_of plan.grid.columns) (edge-plain plan.grid.columns) ∙ ap₂ (λ x y. x + y) (reached-edge plan.grid.columns (omega arith) apart-last) (edge-wide plan.grid.columns apart-last)

      -- ---- what stands in a line

      -- an edge stands where no owner is all round it
      pub edge-stands : (j : ℕ) → j ≤ plan.grid.columns → line_width plan j ≡ 1 → ((o : Rectangle) → up j ≡ Some o → up (j + 1) ≡ Some o → down j ≡ Some o → down (j + 1) ≡ Some o → ⊥) → StandsIn written (left plan j) (mark plan.style (eqb u d) (meeting_at j) ∷ [])
      edge-stands j h drawn never = elim (cases_lt j plan.grid.columns) [
        | inl less ↦
            let s = split-each part plan.grid.columns j less in
            record {
              before = each j part;
              after = column_of j ++ (s.rest ++ edge_of plan.grid.columns);
              is = ap (λ xs. xs ++ edge_of plan.grid.columns) s.is ∙ rw edge_is (simp append_assoc);
              at = reached-edge j h apart;
            }
        | inr last ↦
            let same : plan.grid.columns ≡ j = omega arith in
            record {
              before = each j part;
              after = [];
              is = ap (λ k. each k part ++ edge_of k) same ∙ ap (λ xs. each j part ++ xs) (edge_is ∙ sym (append-nil (mark_at j ∷ [])));
              at = reached-edge j h apart;
            }
      ]
        where
          apart : joint j ≡ false
          apart = not-joint j h wide never

          edge_is : edge_of j ≡ mark_at j ∷ []
          edge_is = edge-is j apart ∙ ap (λ k. replicate k (mark_at j)) drawn

      -- between two owners stands a level border
      pub level-stands : (j : ℕ) → j < plan.grid.columns → ((o : Rectangle) → up (j + 1) ≡ Some o → down (j + 1) ≡ Some o → ⊥) → StandsIn written (left plan j + line_width plan j) (replicate (left plan (j + 1) - left plan j - line_width plan j) plan.style.horizontal)
      level-stands j less never =
          let size = inside_of j in
          let two : differ (up (j + 1)) (down (j + 1)) ≡ true = true_from_ne_false (differ (up (j + 1)) (down (j + 1))) (λ f. (let both = owner-both fit u (j + 1) d (j + 1) f (some-one (j + 1) (omega arith) (omega (arith, less))) in never both.0 both.1 both.2)) in
          let is : column_of j ≡ replicate size plan.style.horizontal = column-apart j two in
          let to : left plan (j + 1) ≡ left plan j + (line_width plan j + get_or (widths plan) j 0 + 2) = start-next Columns plan.style plan.grid plan.merged j in
          let many : size ≡ left plan (j + 1) - left plan j - line_width plan j = omega (arith, to) in
          let apart : joint j ≡ false = not-joint j (omega (arith, less)) wide (λ o e e' f f'. never o e' f') in
          let s = split-each part plan.grid.columns j less in
          let stands : StandsIn written (left plan j + line_width plan j) (column_of j) = record {
            before = each j part ++ edge_of j;
            after = s.rest ++ edge_of plan.grid.columns;
            is = ap (λ xs. xs ++ edge_of plan.grid.columns) s.is ∙ simp append_assoc;
            at = columns-append (each j part) (edge_of j) (edge-plain j) ∙ ap₂ (λ x y. x + y) (reached-edge j (omega (arith, less)) apart) (edge-wide j apart);
          } in
          subst (StandsIn written (left plan j + line_width plan j)) (is ∙ ap (λ k. replicate k plan.style.horizontal) many) stands

      -- what a cell shows stands between the edges at its left and at its right
      pub cell-framed : (j : ℕ) (o : Rectangle) → j < plan.grid.columns → o.first.col ≡ j → up (j + 1) ≡ Some o → down (j + 1) ≡ Some o → ShowsFramed j o
      cell-framed j o less first e f = elim (cases_lt end plan.grid.columns) [
        | inl within ↦
            let s = split-each part plan.grid.columns (j + o.size.width) within in
            framed (column_of (j + o.size.width) ++ (s.rest ++ edge_of plan.grid.columns)) (ap (λ xs. xs ++ edge_of plan.grid.columns) s.is ∙ simp append_assoc)
        | inr last ↦
            let same : plan.grid.columns ≡ j + o.size.width = omega (arith, high, last) in
            framed [] (ap (λ k. each k part ++ edge_of k) same ∙ ap (λ xs. each (j + o.size.width) part ++ xs) (sym (append-nil (edge_of (j + o.size.width)))))
      ]
        where
          end : ℕ
          end = j + o.size.width

          a : Owns plan.grid.rows plan.grid.columns plan.merged u (j + 1) o
          a = owner-owns fit e

          b : Owns plan.grid.rows plan.grid.columns plan.merged d (j + 1) o
          b = owner-owns fit f

          high : j + o.size.width ≤ plan.grid.columns
          high = omega (arith, a.lies.1.right, first)

          over : (k : ℕ) → j < k → k ≤ j + o.size.width → up k ≡ Some o
          over k low within = a.all u k a.top a.bottom (omega (arith, low, first)) (omega (arith, within, first))

          under : (k : ℕ) → j < k → k ≤ j + o.size.width → down k ≡ Some o
          under k low within = b.all d k b.top b.bottom (omega (arith, low, first)) (omega (arith, within, first))

          begins : joint j ≡ false
          begins = not-joint j (omega (arith, less)) wide (λ p x x' y y'. (let far = owner-owns fit (x ∙ sym x' ∙ e) in omega (arith, far.left, first)))

          ends : joint (j + o.size.width) ≡ false
          ends = not-joint (j + o.size.width) high wide (λ p x x' y y'. (let far = owner-owns fit (x' ∙ sym x ∙ over (j + o.size.width) (omega (arith, a.lies.0.width)) (omega arith)) in omega (arith, far.right, first)))

          -- in its other columns stands nothing
          nothing : (k : ℕ) → k < o.size.width → each (j + 1 + k) part ≡ each (j + 1) part
          nothing zero within = ap (λ i. each i part) (add-zero (j + 1))
          nothing (suc k) within =
              let i = j + 1 + k in
              let none : part i ≡ [] = ap₂ (λ x y. x ++ y)
              (edge-none i (joint-from i o (over i (omega arith) (omega (arith, within))) (under i (omega arith) (omega (arith, within))) (over (i + 1) (omega arith) (omega (arith, within))) (under (i + 1) (omega arith) (omega (arith, within)))))
              (column-none i o (over (i + 1) (omega arith) (omega (arith, within))) (under (i + 1) (omega arith) (omega (arith, within))) (λ same. omega (arith, same, first))) in
              ap (λ x. each x part) (let s : j + 1 + suc k ≡ i + 1 = omega arith in s) ∙ each-more part i ∙ ap (λ x. each i part ++ x) none ∙ append-nil (each i part) ∙ nothing k (omega (arith, within))

          before_end : each (j + o.size.width) part ≡ each j part ++ (edge_of j ++ shows plan aligns n o)
          before_end =
              ap (λ x. each x part) (let s : j + o.size.width ≡ j + 1 + (o.size.width - 1) = omega (arith, a.lies.0.width) in s) ∙ nothing (o.size.width - 1) (omega (arith, a.lies.0.width))
              ∙ each-more part j ∙ ap (λ x. each j part ++ (edge_of j ++ x)) (column-shows j o e f first)

          framed : (after : List ℕ) → line_at plan aligns n u d ≡ each (j + o.size.width) part ++ (edge_of (j + o.size.width) ++ after) → ShowsFramed j o
          framed after is = record {
            first = edge_of j;
            last = edge_of (j + o.size.width);
            first_long = ap length (edge-is j begins) ∙ length-replicate (line_width plan j) (mark_at j);
            last_long = ap length (edge-is (j + o.size.width) ends) ∙ length-replicate (line_width plan (j + o.size.width)) (mark_at (j + o.size.width));
            first_marks = subst (AllByRecursion IsFineMark) (sym (edge-is j begins)) (all-marks (line_width plan j) (mark_at j) (mark-fine plan.style fine (eqb u d) (meeting_at j)));
            last_marks = subst (AllByRecursion IsFineMark) (sym (edge-is (j + o.size.width) ends)) (all-marks (line_width plan (j + o.size.width)) (mark_at (j + o.size.width)) (mark-fine plan.style fine (eqb u d) (meeting_at (j + o.size.width))));
            stands = record {
              before = each j part;
              after = after;
              is = is ∙ ap (λ x. x ++ (edge_of (j + o.size.width) ++ after)) before_end ∙ simp append_assoc;
              at = reached-edge j (omega (arith, less)) begins;
            };
          }
