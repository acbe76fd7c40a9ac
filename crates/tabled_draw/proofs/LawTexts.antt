-- Texts stand whole in a picture.
use Rattle.tabled_draw.proofs.Common.{Alignment, Columns, IsFine, IsSeen, List, Plan, Position, Rectangle, Rows, ShowsTexts, Some, StandsAt, StandsFramed, StandsIn, [], aligned, alignment_in, ap, append_assoc, ap₂, arith, get_or, heights, indent_of, inl, inner_height, inner_left, inner_line, inner_top, inner_width, inr, left, length, line_at, line_height, line_width, lines_shown, owner_at, owner_in, picture_lines, refl, replicate, room, shows, subst, text_line, text_of_cell, text_width, top, widest, widths, ℕ, ◌++◌, ◌+◌, ◌-◌, ◌<◌, ◌∙◌, ◌≡◌, ◌≤◌}
use Rattle.tabled_draw.proofs.LawLines.{Framed, cell-framed}
use Rattle.tabled_draw.proofs.Widths.{IsPlain, columns-append, columns-blanks, marks-wide, plain-blanks, plain-marks}
use Rattle.tabled_draw.proofs.Owned.{owner-inside, owner-owns}
use Rattle.tabled_grid.proofs.Owners.{AnchorsFit, owner-lies, owner-self}
use Rattle.tabled_draw.proofs.Shares.{room-end}
use Rattle.tabled_draw.proofs.Sizes.{line-least, room-enough}
use Rattle.tabled_draw.proofs.LawPicture.{IsLine, line-above, line-in, locate, stands-at}
use Rattle.tabled_draw.proofs.LawPicture.Where.{line, text}
use Rattle.tabled_grid.specs.Rectangles.{HasArea, LiesInside}

-- a part of what stands, stands
stands-part : (row : List ℕ) (columns : ℕ) (a b c : List ℕ) → IsPlain a → StandsIn row columns (a ++ (b ++ c)) → StandsIn row (columns + text_width a) b
stands-part row columns a b c plain s = record {
  before = s.before ++ a;
  after = c ++ s.after;
  is = s.is ∙ simp append_assoc;
  at = columns-append s.before a plain ∙ ap (λ n. n + text_width a) s.at;
}

module _ (plan : Plan) (aligns : List Alignment) (fine : IsFine plan.style) (fit : AnchorsFit plan.grid.rows plan.grid.columns plan.merged) where
  -- ---- what a cell shows

  module _ (p : Position) (it : IsSeen plan.grid plan.merged p) where
    abbrev o : Rectangle
    o = owner_in plan.merged p

    abbrev wide : ℕ
    wide = room Columns (line_width plan) (widths plan) p.col o.size.width

    -- characters stand in a line of the picture, between the borders at both sides of the cell
    abbrev Stands : ℕ → List ℕ → Type 0
    Stands n shown = StandsFramed (picture_lines plan aligns) n (left plan p.col) (line_width plan p.col) (line_width plan (p.col + o.size.width)) shown

    self : o.first ≡ p
    self = owner-self plan.merged p it.seen

    lies : HasArea o × LiesInside plan.grid.rows plan.grid.columns o
    lies = owner-lies fit p it.inside.row it.inside.col

    row_is : o.first.row ≡ p.row
    row_is = ap (λ (q : Position). q.row) self

    col_is : o.first.col ≡ p.col
    col_is = ap (λ (q : Position). q.col) self

    owns : (r : ℕ) → p.row < r → r ≤ p.row + o.size.height → owner_at plan r (p.col + 1) ≡ Some o
    owns r above below = (owner-owns fit (owner-inside plan.grid.rows plan.grid.columns plan.merged p.row p.col it.inside.row it.inside.col)).all r (p.col + 1) (omega (arith, row_is)) (omega (arith, row_is)) (omega (arith, col_is)) (omega (arith, col_is, lies.0.width))

    -- as many characters of borders stand before and behind it as there are
    shows-framed : (n : ℕ) → inner_top plan p ≤ n → n < top plan (p.row + o.size.height) → Stands n (shows plan aligns n o)
    shows-framed n low high = elim (locate plan aligns p.row o.size.height n (omega (arith, row_is, lies.1.bottom)) low high) [
      | line r above below drawn is ↦
          let low : p.row + o.size.height ≤ plan.grid.rows = omega (arith, row_is, lies.1.bottom) in
          let l : IsLine plan aligns n (line_at plan aligns n r (r + 1)) = subst (λ k. IsLine plan aligns k (line_at plan aligns k r (r + 1))) is (line-above plan aligns some wide_some r (omega (arith, low, below)) drawn) in
          framed-at (line_at plan aligns n r (r + 1)) l (cell-framed plan aligns fine fit n r (r + 1) (record { some = some; low = omega arith; high = omega (arith, low, below); next = inr refl }) wide_some p.col o it.inside.col col_is (owns r above (omega (arith, below))) (owns (r + 1) (omega (arith, above)) (omega (arith, below))))
      | text r above below x y ↦
          let low : p.row + o.size.height ≤ plan.grid.rows = omega (arith, row_is, lies.1.bottom) in
          framed-at (line_at plan aligns n (r + 1) (r + 1)) (line-in plan aligns some wide_some r n (omega (arith, low, below)) x y) (cell-framed plan aligns fine fit n (r + 1) (r + 1) (record { some = some; low = omega arith; high = omega (arith, low, below); next = inl refl }) wide_some p.col o it.inside.col col_is (owns (r + 1) (omega (arith, above)) (omega (arith, below))) (owns (r + 1) (omega (arith, above)) (omega (arith, below))))
    ]
      where
        some : 0 < plan.grid.rows
        some = omega (arith, it.inside.row)

        wide_some : 0 < plan.grid.columns
        wide_some = omega (arith, it.inside.col)

        framed-at : (row : List ℕ) → IsLine plan aligns n row → Framed row (left plan p.col) (line_width plan p.col) (line_width plan (p.col + o.size.width)) (shows plan aligns n o) → Stands n (shows plan aligns n o)
        framed-at row l f = record { first = f.first; last = f.last; first_long = f.first_long; last_long = f.last_long; first_marks = f.first_marks; last_marks = f.last_marks; stands = stands-at plan aligns n (left plan p.col) row (f.first ++ (shows plan aligns n o ++ f.last)) l f.stands }

    -- its room
    width-enough : (k : ℕ) → text_width (text_line plan.grid p k) ≤ wide
    width-enough k =
        let enough : widest (text_of_cell plan.grid p) ≤ wide = subst (λ (q : Position). widest (text_of_cell plan.grid q) ≤ room Columns (line_width plan) (widths plan) q.col o.size.width) self (room-enough Columns plan.style plan.grid plan.merged fit p it.inside.row it.inside.col) in
        let within : text_width (text_line plan.grid p k) ≤ widest (text_of_cell plan.grid p) = line-least (lines_shown (text_of_cell plan.grid p)) 0 k in
        omega arith

    width-inner : inner_width plan p ≡ wide + 2
    width-inner =
        let end : left plan (p.col + o.size.width) ≡ left plan p.col + (line_width plan p.col + wide + 2) = room-end Columns (line_width plan) (widths plan) p.col o.size.width lies.0.width in
        omega arith

    text-wide : (k : ℕ) → text_width (text_line plan.grid p k) + 2 ≤ inner_width plan p
    text-wide k = omega (arith, width-enough k, width-inner)

    text-high : length (lines_shown (text_of_cell plan.grid p)) ≤ inner_height plan p
    text-high =
        let enough : length (lines_shown (text_of_cell plan.grid p)) ≤ room Rows (line_height plan) (heights plan) p.row o.size.height = subst (λ (q : Position). length (lines_shown (text_of_cell plan.grid q)) ≤ room Rows (line_height plan) (heights plan) q.row o.size.height) self (room-enough Rows plan.style plan.grid plan.merged fit p it.inside.row it.inside.col) in
        let end : top plan (p.row + o.size.height) ≡ top plan p.row + (line_height plan p.row + room Rows (line_height plan) (heights plan) p.row o.size.height + 0) = room-end Rows (line_height plan) (heights plan) p.row o.size.height lies.0.height in
        omega arith

    -- what it shows, in other words
    shows-is : (k : ℕ) → shows plan aligns (inner_top plan p + k) o ≡ inner_line plan aligns p k
    shows-is k =
        ap (λ (q : Position). aligned (alignment_in aligns q.col) (room Columns (line_width plan) (widths plan) q.col o.size.width) (get_or (lines_shown (text_of_cell plan.grid q)) (inner_top plan p + k - top plan q.row - line_height plan q.row) [])) self
        ∙ ap₂ (λ x i. aligned (alignment_in aligns p.col) x (text_line plan.grid p i)) (let e : wide ≡ inner_width plan p - 2 = omega (arith, width-inner) in e) (let e : inner_top plan p + k - top plan p.row - line_height plan p.row ≡ k = omega arith in e)

    text-alone : (k : ℕ) → k < inner_height plan p → Stands (inner_top plan p + k) (inner_line plan aligns p k)
    text-alone k less = subst (Stands (inner_top plan p + k)) (shows-is k) (shows-framed (inner_top plan p + k) (omega arith) (omega arith))

    text-whole : (k : ℕ) → k < length (lines_shown (text_of_cell plan.grid p)) → StandsAt (picture_lines plan aligns) (inner_top plan p + k) (inner_left plan p + 1 + indent_of plan aligns p k) (text_line plan.grid p k)
    text-whole k less =
        let s = text-alone k (omega (arith, text-high)) in
        let row = get_or (picture_lines plan aligns) (inner_top plan p + k) [] in
        let before = indent_of plan aligns p k in
        let free = inner_width plan p - 2 - text_width (text_line plan.grid p k) in
        let inside : StandsIn row (left plan p.col + text_width s.first) (inner_line plan aligns p k) = stands-part row (left plan p.col) s.first (inner_line plan aligns p k) s.last (plain-marks s.first s.first_marks) s.stands.stands in
        let part : StandsIn row (left plan p.col + text_width s.first + text_width (replicate (before + 1) 32)) (text_line plan.grid p k) = stands-part row (left plan p.col + text_width s.first) (replicate (before + 1) 32) (text_line plan.grid p k) (replicate (free - before + 1) 32) (plain-blanks (before + 1)) inside in
        let blanks : text_width (replicate (before + 1) 32) ≡ before + 1 = columns-blanks (before + 1) in
        let marks : text_width s.first ≡ line_width plan p.col = marks-wide s.first s.first_marks ∙ s.first_long in
        let at : left plan p.col + text_width s.first + text_width (replicate (before + 1) 32) ≡ inner_left plan p + 1 + before = omega (arith, blanks, marks) in
        record { inside = s.stands.inside; stands = subst (λ n. StandsIn row n (text_line plan.grid p k)) at part }

  pub shows-texts : ShowsTexts plan aligns
  shows-texts = record { whole = text-whole; alone = text-alone; high = text-high; wide = text-wide }
