-- What is said of pictures as a whole.
use Rattle.std.specs.Prelude.{◌≡◌, ◌+◌, ◌-◌, ◌<◌, ◌≤◌, ◌⊎◌, if◌then◌else◌, ℕ, Bool, List, [], length, max, slice_index_or, slice_set}
use Rattle.std.specs.List.{AllByRecursion, fold, sum}
use Rattle.tabled_draw.specs.Marks.{IsFine, IsNoControl}
use Rattle.tabled_draw.specs.Picture.{Plan, bytes_of_lines, drawn_with, heights, line_columns, line_height, picture, picture_lines, plan_of}
use Rattle.tabled_draw.specs.Sizes.{asks, own_sizes, room, sizes, text_of_cell}
use Rattle.tabled_draw.specs.Each.{is_in_range, total}
use Rattle.tabled_draw.specs.Borders.{border}
use Rattle.tabled_draw.specs.Texts.{text_width}
use Rattle.tabled_draw.specs.declared.alignment.Alignment.{Alignment}
use Rattle.tabled_draw.specs.declared.style.Style.{Style}
use Rattle.tabled_grid.specs.Axis.{line_of, lines_in}
use Rattle.tabled_grid.specs.Entity.{place}
use Rattle.tabled_grid.specs.Fitting.{Fits, fitting}
use Rattle.tabled_grid.specs.Grid.{Grid, IsInside}
use Rattle.tabled_grid.specs.Spans.{SpanMap, rectangles}
use Rattle.tabled_grid.specs.declared.config.rectangle.Rectangle.{Rectangle}
use Rattle.tabled_grid.specs.declared.records.axis.Axis.{Axis}

-- what is said of plans and alignments holds where merged cells fit their table, and so always of those that are drawn
pub record HoldsOfPictures (Says : Plan → List Alignment → Type 0) : Type 0 where
  pub where_all_fit : (style : Style) (aligns : List Alignment) (g : Grid (List ℕ)) (m : SpanMap) → Fits m g.rows g.columns → Says (plan_of style g (rectangles m)) aligns
  pub of_drawn : (style : Style) (aligns : List Alignment) (g : Grid (List ℕ)) (m : SpanMap) → Says (plan_of style g (fitting g.rows g.columns (rectangles m))) aligns

-- it holds of any, whether all merged cells fit or not
abbrev pub HoldsOfAll : (Plan → List Alignment → Type 0) → Type 0
HoldsOfAll Says = (plan : Plan) (aligns : List Alignment) → Says plan aligns

-- no character of a line is a control character
abbrev pub AreNoControls : List ℕ → Type 0
AreNoControls line = AllByRecursion IsNoControl line

-- so is it in all lines, in a style whose characters are fine
abbrev pub HasNoControls : Plan → List Alignment → Type 0
HasNoControls plan aligns = IsFine plan.style → AllByRecursion AreNoControls (picture_lines plan aligns)

-- all lines take the same columns
abbrev pub AreEquallyWide : Plan → List Alignment → Type 0
AreEquallyWide plan aligns = IsFine plan.style → AllByRecursion (λ line. text_width line ≡ line_columns plan) (picture_lines plan aligns)

-- the number of lines that are drawn around the rows of a table
abbrev pub drawn_lines : Plan → ℕ
drawn_lines plan = total (plan.grid.rows + 1) (line_height plan)

-- the picture of a table with a cell has a line for each line of a row, and one for each line around the rows that is drawn
abbrev pub HasAsManyLines : Plan → List Alignment → Type 0
HasAsManyLines plan aligns = IsInside plan.grid (place 0 0) → length (picture_lines plan aligns) ≡ sum (heights plan) + drawn_lines plan

-- each row of a table has a line of its own
abbrev pub HasLineOfEachRow : Plan → List Alignment → Type 0
HasLineOfEachRow plan aligns = (i : ℕ) → i < plan.grid.rows → 1 ≤ slice_index_or (heights plan) i 0

-- the picture of a table without cells has no line
abbrev pub HasNoLinesWithoutCells : Plan → List Alignment → Type 0
HasNoLinesWithoutCells plan aligns = (plan.grid.rows ≡ 0) ⊎ (plan.grid.columns ≡ 0) → picture_lines plan aligns ≡ []

-- in each look, two tables with merged cells have one picture
abbrev pub AreDrawnAlike : Grid (List ℕ) → SpanMap → Grid (List ℕ) → SpanMap → Type 0
AreDrawnAlike g m h k = (style : Style) (aligns : List Alignment) → drawn_with style aligns g m ≡ drawn_with style aligns h k

-- in each look, the picture of a table is that with all its merged cells
abbrev pub IsDrawnWhole : Grid (List ℕ) → SpanMap → Type 0
IsDrawnWhole g m = (style : Style) (aligns : List Alignment) → drawn_with style aligns g m ≡ bytes_of_lines (picture style aligns g (rectangles m))

-- a merged cell takes a row, or a column
abbrev pub takes : Axis → ℕ → Rectangle → Bool
takes axis k e = is_in_range k (line_of axis e.first) (lines_in axis e.size)

-- what is lacking of a row or column for the text of a merged cell, where the others are as large as their own texts ask
abbrev pub lacking : Axis → Style → Grid (List ℕ) → List Rectangle → ℕ → Rectangle → ℕ
lacking axis style g es k e =
    let others = slice_set (own_sizes axis g es) k 0 in
    asks axis (text_of_cell g e.first) - room axis (border axis style g) others (line_of axis e.first) (lines_in axis e.size)

-- the most that is asked of a row or column: by texts that are seen in no other, beside the others by a merged cell that
-- takes it, and of each row one line
abbrev pub most_asked : Axis → Style → Grid (List ℕ) → List Rectangle → ℕ → ℕ
most_asked axis style g es k =
    let own = slice_index_or (own_sizes axis g es) k 0 in
    fold (λ most e. if takes axis k e then max most (lacking axis style g es k e) else most) own es

-- no row is higher, and no column wider
abbrev pub AreNoLargerThanAsked : Plan → List Alignment → Type 0
AreNoLargerThanAsked plan aligns = (axis : Axis) (k : ℕ) → slice_index_or (sizes axis plan.style plan.grid plan.merged) k 0 ≤ most_asked axis plan.style plan.grid plan.merged k
