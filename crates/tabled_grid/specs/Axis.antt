-- Rows and columns, said once for both: a line is a row or a column.
use Rattle.std.specs.Prelude.{ℕ, ◌+◌}
use Rattle.tabled_grid.specs.Entity.{place}
use Rattle.tabled_grid.specs.declared.config.position.Position.{Position}
use Rattle.tabled_grid.specs.declared.records.axis.Axis.{Axis}
use Rattle.tabled_grid.specs.declared.records.axis.Axis.TheVariants.{Rows, Columns}
use Rattle.tabled_grid.specs.Spans.{SpanMap, sized, with_column_span, with_row_span}
use Rattle.tabled_grid.specs.declared.config.size.Size.{Size}

-- columns for rows, rows for columns
abbrev pub across : Axis → Axis
across Rows = Columns
across Columns = Rows

-- the number of rows, or that of columns
abbrev pub count_of : Axis → ℕ → ℕ → ℕ
count_of Rows rows columns = rows
count_of Columns rows columns = columns

-- the place of a cell of a line
abbrev pub place_in : Axis → ℕ → ℕ → Position
place_in Rows i j = place i j
place_in Columns i j = place j i

-- the index of a place's line
abbrev pub line_of : Axis → Position → ℕ
line_of Rows p = p.row
line_of Columns p = p.col

-- the same place in another line
abbrev pub in_line : Axis → Position → ℕ → Position
in_line Rows p i = place i p.col
in_line Columns p j = place p.row j

-- the place beside this one in the next line
abbrev pub next_line : Axis → Position → Position
next_line axis p = in_line axis p (line_of axis p + 1)

-- how many lines a size takes
abbrev pub lines_in : Axis → Size → ℕ
lines_in Rows size = size.height
lines_in Columns size = size.width

-- the size with n lines
abbrev pub resized : Axis → Size → ℕ → Size
resized Rows size many = sized many size.width
resized Columns size many = sized size.height many

-- the map with a height or a width at a place, of which 0 changes nothing
abbrev pub with_span : Axis → SpanMap → Position → ℕ → SpanMap
with_span Rows = with_row_span
with_span Columns = with_column_span
