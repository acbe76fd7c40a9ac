-- The picture of a table: its lines, each a list of characters.
use Rattle.std.specs.Prelude.{◌≡◌, ◌⊎◌, ◌+◌, ◌-◌, ◌==◌, ◌||◌, ◌++◌, if◌then◌else◌, ℕ, List, [], ◌∷◌, None, Option, Some, encode_utf8_all, replicate, slice_index_or, IfErr, OnOk, Result}
use Rattle.std.specs.Io.KnownBytes.{Appends}
use Rattle.std.specs.IoError.{error_kind}
use Rattle.std.specs.List.{flat_map}
use Rattle.std.specs.declared.io.Error.{Error}
use Rattle.std.specs.declared.io.ErrorKind.TheVariants.{OutOfMemory}
use Rattle.tabled_draw.specs.Alignments.{alignment_in, cell}
use Rattle.tabled_draw.specs.Borders.{border, differ, edge}
use Rattle.tabled_draw.specs.Each.{each}
use Rattle.tabled_draw.specs.Owners.{Owner, owner}
use Rattle.tabled_draw.specs.Sizes.{pad, room, sizes, start_of, text_of_cell}
use Rattle.tabled_draw.specs.declared.alignment.Alignment.{Alignment}
use Rattle.tabled_draw.specs.declared.look.Look.{Look}
use Rattle.tabled_draw.specs.declared.style.Style.{Style}
use Rattle.tabled_draw.specs.declared.style.TheConstants.Style.{ASCII}
use Rattle.tabled_grid.specs.Fitting.{fitting}
use Rattle.tabled_grid.specs.Grid.{Grid}
use Rattle.tabled_grid.specs.Spans.{SpanMap, rectangles}
use Rattle.tabled_grid.specs.declared.config.rectangle.Rectangle.{Rectangle}
use Rattle.tabled_grid.specs.declared.records.axis.Axis.TheVariants.{Rows, Columns}
use Rattle.tabled_held.specs.Sent.{IsCutShort}

-- what a picture shows, but for how texts are aligned: a table of texts and its merged cells, in a style
pub record Plan : Type 0 where
  pub style : Style
  pub grid : Grid (List ℕ)
  pub merged : List Rectangle

-- the plan of a table in a style
abbrev pub plan_of : Style → Grid (List ℕ) → List Rectangle → Plan
plan_of style g es = record { style = style; grid = g; merged = es }

-- ---- where rows and columns lie, and what stands between them

module _ (plan : Plan) where
  -- what owns the place in row i and column j, which count from 1
  abbrev pub owner_at : ℕ → ℕ → Owner
  owner_at i j = owner plan.grid.rows plan.grid.columns plan.merged i j

  -- how high the line above a row is, or that below the last one: one, if it is drawn
  abbrev pub line_height : ℕ → ℕ
  line_height i = border Rows plan.style plan.grid i

  -- how wide the line at the left edge of a column is, or at the right edge of the last one
  abbrev pub line_width : ℕ → ℕ
  line_width j = border Columns plan.style plan.grid j

  -- the heights of rows
  abbrev pub heights : List ℕ
  heights = sizes Rows plan.style plan.grid plan.merged

  -- the widths of columns
  abbrev pub widths : List ℕ
  widths = sizes Columns plan.style plan.grid plan.merged

  -- the number of lines before the line above a row
  abbrev pub top : ℕ → ℕ
  top i = start_of Rows line_height heights i

  -- the number of characters before a column's left edge, where each is one column wide
  abbrev pub left : ℕ → ℕ
  left j = start_of Columns line_width widths j

  -- the columns of each line: those before the table's right edge, and one for that edge if it is drawn
  abbrev pub line_columns : ℕ
  line_columns = left plan.grid.columns + line_width plan.grid.columns

  -- at the left edge of a column, in row u or between the rows u and d, which count from 1
  abbrev pub edge_at : ℕ → ℕ → ℕ → List ℕ
  edge_at u d j = edge plan.style (u == d) (line_width j) (owner_at u j) (owner_at u (j + 1)) (owner_at d j) (owner_at d (j + 1))

-- ---- lines

module _ (plan : Plan) (aligns : List Alignment) where
  -- what a cell shows in the n-th line of the picture: its line of text, aligned in its room
  abbrev pub shows : ℕ → Rectangle → List ℕ
  shows n o =
      cell (alignment_in aligns o.first.col) (room Columns (line_width plan) (widths plan) o.first.col o.size.width) (text_of_cell plan.grid o.first)
      (n - top plan o.first.row - line_height plan o.first.row)

  -- what it shows in a column of that line: its text where it begins, elsewhere nothing
  abbrev pub shows_in : ℕ → ℕ → Owner → List ℕ
  shows_in n j None = []
  shows_in n j (Some o) = if o.first.col == j then shows n o else []

  -- in a column: a border between two owners, else what the one owner shows
  abbrev pub column_at : ℕ → ℕ → ℕ → ℕ → List ℕ
  column_at n u d j =
      if differ (owner_at plan u (j + 1)) (owner_at plan d (j + 1))
      then replicate (slice_index_or (widths plan) j 0 + pad Columns) plan.style.horizontal
      else shows_in n j (owner_at plan u (j + 1))

  -- the n-th line of the picture, in row u or between the rows u and d
  abbrev pub line_at : ℕ → ℕ → ℕ → List ℕ
  line_at n u d = each plan.grid.columns (λ j. edge_at plan u d j ++ column_at n u d j) ++ edge_at plan u d plan.grid.columns

  -- the line above a row, or below the last one, if it is drawn
  abbrev pub border_line : ℕ → List (List ℕ)
  border_line i = replicate (line_height plan i) (line_at (top plan i) i (i + 1))

  -- the line above a row, and the lines in it
  abbrev pub lines_of_row : ℕ → List (List ℕ)
  lines_of_row i = border_line i ++ each (slice_index_or (heights plan) i 0) (λ y. line_at (top plan i + line_height plan i + y) (i + 1) (i + 1) ∷ [])

  -- the lines of the picture, of which a table without cells has none
  abbrev pub picture_lines : List (List ℕ)
  picture_lines =
      if (plan.grid.rows == 0) || (plan.grid.columns == 0) then []
      else each plan.grid.rows lines_of_row ++ border_line plan.grid.rows

-- ---- pictures

-- the lines of the picture of a table with merged cells
abbrev pub picture : Style → List Alignment → Grid (List ℕ) → List Rectangle → List (List ℕ)
picture style aligns g es = picture_lines (plan_of style g es) aligns

-- lines, with a newline after each
abbrev pub with_newlines : List (List ℕ) → List ℕ
with_newlines lines = flat_map (λ line. line ++ (10 ∷ [])) lines

-- the bytes of lines, with a newline after each
abbrev pub bytes_of_lines : List (List ℕ) → List ℕ
bytes_of_lines lines = encode_utf8_all (with_newlines lines)

-- the bytes of the picture of a table with those of its merged cells that fit it
unfoldable pub drawn_with : Style → List Alignment → Grid (List ℕ) → SpanMap → List ℕ
drawn_with style aligns g m = bytes_of_lines (picture style aligns g (fitting g.rows g.columns (rectangles m)))

-- the bytes of that picture in the look that the original crate has by default
abbrev pub drawn : Grid (List ℕ) → SpanMap → List ℕ
drawn g m = drawn_with ASCII [] g m

-- the bytes of that picture in a look
abbrev pub drawn_in : Look → Grid (List ℕ) → SpanMap → List ℕ
drawn_in look g m = drawn_with look.style look.alignments.now g m

-- where a drawing went well, its writer got these bytes
abbrev pub IsDrawn : {W T : Type 0} → (W → Option (List ℕ)) → Result T Error → W → W → List ℕ → Type 0
IsDrawn contents result old new bytes = OnOk result (Appends (contents old) (contents new) bytes)

-- where it failed, memory ran out and nothing was written, or the writer failed and got the first of these bytes, and not
-- all
abbrev pub LeavesSome : {W T : Type 0} → (W → Option (List ℕ)) → Result T Error → W → W → List ℕ → Type 0
LeavesSome contents result old new bytes =
    IfErr result (λ error. ((error_kind error ≡ OutOfMemory) × (contents new ≡ contents old)) ⊎ IsCutShort (contents old) (contents new) bytes)
