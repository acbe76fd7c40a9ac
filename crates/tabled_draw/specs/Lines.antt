-- Lines of a picture as they are written: by their sheet, the owners of their places, and what is left of texts.
use Rattle.std.specs.Prelude.{◌≡◌, ◌≢◌, ◌+◌, ◌-◌, ◌<◌, ◌==◌, ◌++◌, if◌then◌else◌, ℕ, Bool, false, List, [], ◌∷◌, None, Some, length, map, slice_index_or}
use denote.Ref.{Bor}
use Rattle.tabled_draw.specs.Alignments.{alignment_in, cell}
use Rattle.tabled_draw.specs.Borders.{differ, edge, is_drawn, size_if}
use Rattle.tabled_draw.specs.Each.{each}
use Rattle.tabled_draw.specs.Owners.{Owner}
use Rattle.tabled_draw.specs.Picture.{Plan, line_height, lines_of_row, owner_at, picture_lines, plan_of, top, with_newlines}
use Rattle.tabled_draw.specs.Sizes.{pad, text_of_cell}
use Rattle.tabled_draw.specs.Texts.{after_line, line_shown}
use Rattle.tabled_draw.specs.Unmerged.{level, unmerged_line}
use Rattle.tabled_draw.specs.declared.sheet.Sheet.{Sheet}
use Rattle.tabled_grid.specs.Entity.{place, same_place}
use Rattle.tabled_grid.specs.Grid.{Grid}
use Rattle.tabled_grid.specs.Spans.{SpanMap, rectangles}
use Rattle.tabled_grid.specs.declared.config.position.Position.{Position}
use Rattle.tabled_grid.specs.declared.config.rectangle.Rectangle.{Rectangle}
use Rattle.tabled_grid.specs.declared.records.axis.Axis.TheVariants.{Columns}

-- ---- what is written

module _ (sheet : Sheet) where
  -- what an owner shows in a column, at whose left edge a line is drawn or not: its next line of text, if it begins there
  abbrev pub text_inside : Bool → ℕ → Owner → List ℕ → List ℕ
  text_inside drawn j None text = []
  text_inside drawn j (Some o) text =
      if o.first.col == j
      then cell (alignment_in sheet.look.alignments.now j) (slice_index_or sheet.edges.now (j + o.size.width) 0 - slice_index_or sheet.edges.now j 0 - size_if drawn - pad Columns) text 0
      else []

  -- in a column: a border, if the owners above and below are apart, else what their one shows
  abbrev pub column : Bool → Bool → ℕ → Owner → List ℕ → List ℕ
  column drawn apart j a text = if apart then level sheet.look.style drawn sheet.edges.now j else text_inside drawn j a text

  -- in a line, the edge before a column of n, in a row or between two, with these owners above and below
  abbrev pub edge_before : Bool → List Owner → List Owner → ℕ → ℕ → List ℕ
  edge_before is_row above below n j =
      edge sheet.look.style is_row (size_if (is_drawn sheet.look.style.columns n j)) (slice_index_or above j None) (slice_index_or above (j + 1) None)
      (slice_index_or below j None) (slice_index_or below (j + 1) None)

  -- it, and the column
  abbrev pub stretch : Bool → List Owner → List Owner → ℕ → List (List ℕ) → ℕ → List ℕ
  stretch is_row above below n texts j =
      edge_before is_row above below n j
      ++ column (is_drawn sheet.look.style.columns n j) (differ (slice_index_or above (j + 1) None) (slice_index_or below (j + 1) None)) j (slice_index_or above (j + 1) None) (slice_index_or texts j [])

  -- a line of n columns with its newline, by what is left of the texts in each
  unfoldable pub drawn_line : Bool → List Owner → List Owner → ℕ → List (List ℕ) → List ℕ
  drawn_line is_row above below n texts = (each n (stretch is_row above below n texts) ++ edge_before is_row above below n n) ++ (10 ∷ [])

  -- the line above row i, or below the last one, if it is drawn
  abbrev pub drawn_border : ℕ → List Owner → List Owner → ℕ → List (List ℕ) → List ℕ
  drawn_border i above below n texts = if is_drawn sheet.look.style.rows sheet.rows i then drawn_line false above below n texts else []

  -- the line above row i where no cells are merged
  abbrev pub drawn_unmerged : ℕ → List ℕ
  drawn_unmerged i = unmerged_line sheet.look.style sheet.rows sheet.columns i sheet.edges.now

  -- the plan of a table whose lines these are
  abbrev pub plan_on : Grid (List ℕ) → SpanMap → Plan
  plan_on g m = plan_of sheet.look.style g (rectangles m)

  -- the lines of a row of that table
  abbrev pub drawn_row : Grid (List ℕ) → SpanMap → ℕ → List ℕ
  drawn_row g m i = with_newlines (lines_of_row (plan_on g m) sheet.look.alignments.now i)

  -- all lines of its picture
  abbrev pub drawn_picture : Grid (List ℕ) → SpanMap → List ℕ
  drawn_picture g m = with_newlines (picture_lines (plan_on g m) sheet.look.alignments.now)

-- ---- what is left of the texts in each column, of which a line takes the first lines

-- the bytes of texts that are lent
abbrev pub bytes_in : List (Bor (List ℕ)) → List (List ℕ)
bytes_in rests = map (λ r. r.now) rests

-- an owner begins in a column
abbrev pub begins : ℕ → Owner → Bool
begins j None = false
begins j (Some o) = o.first.col == j

-- what is left of a text in a column, once its owner has shown a line
abbrev pub left_inside : ℕ → Owner → List ℕ → List ℕ
left_inside j a text = if begins j a then after_line text else text

-- what is left of it, once a border is drawn, or what its owner shows
abbrev pub left_if : ℕ → Bool → Owner → List ℕ → List ℕ
left_if j apart a text = if apart then text else left_inside j a text

-- what is left of it, by the owners above and below
abbrev pub left_of : ℕ → Owner → Owner → List ℕ → List ℕ
left_of j a b text = left_if j (differ a b) a text

-- in one column, what is left of the text once a border is drawn there, or a line of its owner's text
pub record IsCutAt (j : ℕ) (apart : Bool) (a : Owner) (old new : List (Bor (List ℕ))) : Type 0 where
  pub long : length new ≡ length old
  pub here : slice_index_or (bytes_in new) j [] ≡ left_if j apart a (slice_index_or (bytes_in old) j [])
  pub others : (k : ℕ) → k ≢ j → slice_index_or (bytes_in new) k [] ≡ slice_index_or (bytes_in old) k []

-- in each column, what is left of the text once a line is drawn
abbrev pub AreCut : List Owner → List Owner → List (Bor (List ℕ)) → List (Bor (List ℕ)) → Type 0
AreCut above below old new =
    (j : ℕ) → j < length old → slice_index_or (bytes_in new) j [] ≡ left_of j (slice_index_or above (j + 1) None) (slice_index_or below (j + 1) None) (slice_index_or (bytes_in old) j [])

-- likewise, if it is drawn, else what was left before
abbrev pub AreCutIf : Bool → List Owner → List Owner → List (Bor (List ℕ)) → List (Bor (List ℕ)) → Type 0
AreCutIf drawn above below old new =
    (j : ℕ) → j < length old
    → slice_index_or (bytes_in new) j [] ≡ (if drawn then left_of j (slice_index_or above (j + 1) None) (slice_index_or below (j + 1) None) (slice_index_or (bytes_in old) j []) else slice_index_or (bytes_in old) j [])

-- the text at a place, if its owner begins there, else another one
abbrev pub begun : Grid (List ℕ) → Owner → Position → List ℕ → List ℕ
begun g None p text = text
begun g (Some o) p text = if same_place o.first p then text_of_cell g p else text

-- in each column, the text of the cell that begins in row i, if one does, else what was left before
abbrev pub AreBegun : Grid (List ℕ) → ℕ → List Owner → List (Bor (List ℕ)) → List (Bor (List ℕ)) → Type 0
AreBegun g i here old new =
    (j : ℕ) → j < g.columns → slice_index_or (bytes_in new) j [] ≡ begun g (slice_index_or here (j + 1) None) (place i j) (slice_index_or (bytes_in old) j [])

-- in each column, the lines that are left are those from the n-th of the picture on of the owner in row i that begins there
pub record AreLeft (plan : Plan) (i n : ℕ) (texts : List (List ℕ)) : Type 0 where
  pub each : (j : ℕ) (o : Rectangle) → j < plan.grid.columns → owner_at plan i (j + 1) ≡ Some o → o.first.col ≡ j
      → (y : ℕ) → line_shown (slice_index_or texts j []) y ≡ line_shown (text_of_cell plan.grid o.first) (n - top plan o.first.row - line_height plan o.first.row + y)

-- the owners of a row have ends inside the table
pub record EndInside (columns : ℕ) (row : List Owner) : Type 0 where
  pub each : (j : ℕ) (o : Rectangle) → j < columns → slice_index_or row (j + 1) None ≡ Some o → o.first.col ≡ j → j + o.size.width < columns + 1
