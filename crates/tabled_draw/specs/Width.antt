-- How wide a picture is.
use Rattle.std.specs.Prelude.{◌≡◌, ◌+◌, ℕ, List, length}
use Rattle.std.specs.List.{AllByRecursion}
use Rattle.tabled_draw.specs.Borders.{line_size}
use Rattle.tabled_draw.specs.Marks.{IsFine}
use Rattle.tabled_draw.specs.Picture.{line_columns, picture, plan_of, widths}
use Rattle.tabled_draw.specs.Sizes.{start_of}
use Rattle.tabled_draw.specs.Texts.{text_width}
use Rattle.tabled_draw.specs.declared.alignment.Alignment.{Alignment}
use Rattle.tabled_draw.specs.declared.style.Lines.{Lines}
use Rattle.tabled_draw.specs.declared.style.Style.{Style}
use Rattle.tabled_grid.specs.Fitting.{fitting}
use Rattle.tabled_grid.specs.Grid.{Grid}
use Rattle.tabled_grid.specs.Spans.{SpanMap, rectangles}
use Rattle.tabled_grid.specs.declared.records.axis.Axis.TheVariants.{Columns}

-- the columns of each line that is drawn, where of a table's merged cells those count that fit it
unfoldable pub picture_width : Style → Grid (List ℕ) → SpanMap → ℕ
picture_width style g m = line_columns (plan_of style g (fitting g.rows g.columns (rectangles m)))

-- the widths of the columns of a table, of whose merged cells those count that fit it
abbrev pub column_widths : Style → Grid (List ℕ) → SpanMap → List ℕ
column_widths style g m = widths (plan_of style g (fitting g.rows g.columns (rectangles m)))

-- the columns of a line where columns have these widths: with the borders between and around them, and what stands beside texts
abbrev pub width_of_columns : Lines → List ℕ → ℕ
width_of_columns lines sizes = start_of Columns (line_size lines (length sizes)) sizes (length sizes) + line_size lines (length sizes) (length sizes)

-- each line that is drawn takes these columns, in a style whose characters take one column
abbrev pub HasItsWidth : Style → List Alignment → Grid (List ℕ) → SpanMap → Type 0
HasItsWidth style aligns g m = IsFine style → AllByRecursion (λ line. text_width line ≡ picture_width style g m) (picture style aligns g (fitting g.rows g.columns (rectangles m)))
