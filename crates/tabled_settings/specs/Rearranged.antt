-- The rearrangements: where their cells come from, in a table of r rows and c columns.
use Rattle.std.specs.Prelude.{◌≡◌, ◌<◌, ℕ, ◌+◌, ◌-◌, ◌==◌, ◌&&◌, if◌then◌else◌, Bool, List, Some, length, min, nat_le, nat_lt, not, slice_index_or}
use Rattle.std.specs.List.{filter, range_with_len}
use Rattle.std.specs.declared.ops.Bound.{Bound}
use Rattle.tabled_grid.specs.Bounds.{end_index, first_index}
use Rattle.tabled_grid.specs.Entity.{place}
use Rattle.tabled_grid.specs.declared.config.offset.Offset.{Offset}
use Rattle.tabled_grid.specs.declared.config.offset.Offset.TheVariants.{Start, End}
use Rattle.tabled_grid.specs.declared.config.position.Position.{Position}
use Rattle.tabled_grid.specs.declared.config.rectangle.Rectangle.{Rectangle}
use Rattle.tabled_grid.specs.declared.records.axis.Axis.{Axis}
use Rattle.tabled_grid.specs.declared.records.axis.Axis.TheVariants.{Rows, Columns}
use Rattle.tabled_settings.specs.declared.rotate.Rotate.{Rotate}
use Rattle.tabled_settings.specs.declared.rotate.Rotate.TheVariants.{Left, Right, Top, Bottom}
use Rattle.tabled_settings.specs.declared.reverse.Reverse.{Reverse}
use Rattle.tabled_grid.specs.Axis.{count_of, in_line, line_of}
use Rattle.tabled_grid.specs.Grid.{Grid}
use Rattle.tabled_grid.specs.Places.{Places, ReadsThrough}
use Rattle.tabled_grid.specs.Spans.{SpanMap, rectangle, sized}
use Rattle.tabled_carry.specs.Images.{carried}
use Rattle.tabled_options.specs.Does.{Change}
use Rattle.tabled_select.specs.Located.{is_located}

-- the cells are read through a map of places, and the merged cells are carried along
abbrev pub Rearranges : {A : Type 0} → Places → Change A SpanMap
Rearranges places old cfg new new_cfg = ReadsThrough places old new × (new_cfg ≡ carried places old.rows old.columns cfg)

-- merged cells, carried along where cells move, and else as they are
abbrev pub carried_if : Bool → Places → ℕ → ℕ → SpanMap → SpanMap
carried_if moves places rows columns m = if moves then carried places rows columns m else m

-- each row, or each column, comes from an old one
abbrev pub lines_from : Axis → (ℕ → ℕ) → ℕ → ℕ → Places
lines_from axis from rows columns = record { size = sized rows columns; old_place = λ (p : Position). Some (in_line axis p (from (line_of axis p))) }

-- n columns, of which there are none without rows
abbrev pub columns_if : ℕ → ℕ → ℕ
columns_if rows columns = if rows == 0 then 0 else columns

-- a table upside down
abbrev pub upside_down : ℕ → ℕ → Places
upside_down rows columns = record { size = sized rows columns; old_place = λ (p : Position). Some (place (rows - 1 - p.row) p.col) }

-- a table turned to the left or to the right, or upside down
abbrev pub rotated : Rotate → ℕ → ℕ → Places
rotated Left rows columns = record { size = sized columns (columns_if columns rows); old_place = λ (p : Position). Some (place p.col (columns - 1 - p.row)) }
rotated Right rows columns = record { size = sized columns (columns_if columns rows); old_place = λ (p : Position). Some (place (rows - 1 - p.col) p.row) }
rotated Top rows columns = upside_down rows columns
rotated Bottom rows columns = upside_down rows columns

-- the turn that exchanges rows and columns and then reverses the rows, or the columns
abbrev pub quarter_of : Axis → Rotate
quarter_of Rows = Left
quarter_of Columns = Right

-- the index past the last one that is reversed, of n
abbrev pub limit_end : Offset → ℕ → ℕ → ℕ
limit_end (Start limit) start n = start + limit
limit_end (End limit) start n = n - limit

-- lines are reversed: there are some from the start up to the limit, and the limit isn't past the table
abbrev pub reverses : Axis → ℕ → Offset → ℕ → ℕ → Bool
reverses axis start limit rows columns = nat_lt start (limit_end limit start (count_of axis rows columns)) && nat_le (limit_end limit start (count_of axis rows columns)) (count_of axis rows columns)

-- the old index of an index of n, where those from s up to e are reversed: none are where e is past n
abbrev pub reversed_index : ℕ → ℕ → ℕ → ℕ → ℕ
reversed_index s e n i = if nat_le e n && (nat_le s i && nat_lt i e) then s + e - 1 - i else i

-- rows or columns in the opposite order, from a start up to a limit
abbrev pub reversed : Axis → ℕ → Offset → ℕ → ℕ → Places
reversed axis start limit rows columns = lines_from axis (reversed_index start (limit_end limit start (count_of axis rows columns)) (count_of axis rows columns)) rows columns

-- how many of n indexes are in a range
abbrev pub count_in : (Bound ℕ × Bound ℕ) → ℕ → ℕ
count_in range n = min (end_index range.1 n) n - first_index range.0

-- the cells of a rectangle
abbrev pub window : Rectangle → Places
window cells = record { size = cells.size; old_place = λ (p : Position). Some (place (cells.first.row + p.row) (cells.first.col + p.col)) }

-- the rows from one index up to another, and of these the columns from one up to another, of r rows and c columns
abbrev pub part : ℕ → ℕ → ℕ → ℕ → ℕ → ℕ → Places
part first_row end_row first_column end_column rows columns = window (rectangle (place first_row first_column) (sized (min end_row rows - first_row) (columns_if (min end_row rows - first_row) (min end_column columns - first_column))))

-- the rows of a range, and of these the columns of another one
abbrev pub extracted : (Bound ℕ × Bound ℕ) → (Bound ℕ × Bound ℕ) → ℕ → ℕ → Places
extracted in_rows in_columns rows columns = window (rectangle (place (first_index in_rows.0) (first_index in_columns.0)) (sized (count_in in_rows rows) (columns_if (count_in in_rows rows) (count_in in_columns columns))))

-- the indexes below n for which a test fails, in order
abbrev pub left_over : (ℕ → Bool) → ℕ → List ℕ
left_over gone n = filter (λ (i : ℕ). not (gone i)) (range_with_len 0 n)

-- the rows, or the columns, of a list of indexes alone
abbrev pub kept_lines : Axis → List ℕ → ℕ → ℕ → Places
kept_lines axis kept rows columns = lines_from axis (λ (i : ℕ). slice_index_or kept i 0) (count_of axis (length kept) rows) (count_of axis (columns_if (length kept) columns) (length kept))

-- these lines alone are kept, and the merged cells are carried along
abbrev pub RearrangesLines : {A : Type 0} → Axis → List ℕ → Change A SpanMap
RearrangesLines axis kept old = Rearranges (kept_lines axis kept old.rows old.columns) old

-- the rows, or the columns, whose indexes are not among some
abbrev pub removed : Axis → List ℕ → ℕ → ℕ → Places
removed axis found rows columns = kept_lines axis (left_over (is_located found) (count_of axis rows columns)) rows columns

-- the lines that are located are taken away, and the merged cells are carried along
pub record Removes {A : Type 0} (axis : Axis) (locates : Grid A → List ℕ → Type 0) (old : Grid A) (cfg : SpanMap) (new : Grid A) (new_cfg : SpanMap) : Type 0 where
  pub found : List ℕ
  pub located : locates old found
  pub rearranged : Rearranges (removed axis found old.rows old.columns) old cfg new new_cfg

-- where a table has a row and a column
abbrev pub WithCells : {A : Type 0} → Grid A → Type 0 → Type 0
WithCells g claim = 0 < g.rows → 0 < g.columns → claim

-- a table is another one, rotated
abbrev pub IsRotated : {A : Type 0} → Rotate → Grid A → Grid A → Type 0
IsRotated rotate old new = ReadsThrough (rotated rotate old.rows old.columns) old new

-- a table is another one, reversed
abbrev pub IsReversed : {A : Type 0} → Reverse → Grid A → Grid A → Type 0
IsReversed reverse old new = ReadsThrough (reversed reverse.axis reverse.start reverse.limit old.rows old.columns) old new

-- the merged cells of a table of r rows and c columns, once lines are reversed: as they were where there are none to reverse
abbrev pub spans_of_reversal : Reverse → ℕ → ℕ → SpanMap → SpanMap
spans_of_reversal reverse rows columns m = carried_if (reverses reverse.axis reverse.start reverse.limit rows columns) (reversed reverse.axis reverse.start reverse.limit rows columns) rows columns m

-- lines of a table are reversed, and the merged cells are carried along
abbrev pub ReversesTable : {A : Type 0} → Reverse → Change A SpanMap
ReversesTable reverse old cfg new new_cfg = IsReversed reverse old new × (new_cfg ≡ spans_of_reversal reverse old.rows old.columns cfg)

-- the merged cells of a table that is rotated
abbrev pub spans_rotated : Rotate → ℕ → ℕ → SpanMap → SpanMap
spans_rotated rotate rows columns m = carried (rotated rotate rows columns) rows columns m

-- the merged cells of a table of which all rows, or all columns, are reversed
abbrev pub spans_reversed : Axis → ℕ → ℕ → SpanMap → SpanMap
spans_reversed axis rows columns m = carried (reversed axis 0 (End 0) rows columns) rows columns m

-- a table with its rows and its columns in the opposite order
abbrev pub half_rotated : ℕ → ℕ → Places
half_rotated rows columns = record { size = sized rows columns; old_place = λ (p : Position). Some (place (rows - 1 - p.row) (columns - 1 - p.col)) }

-- a table is another one, with its rows and its columns in the opposite order
abbrev pub IsHalfRotated : {A : Type 0} → Grid A → Grid A → Type 0
IsHalfRotated old new = ReadsThrough (half_rotated old.rows old.columns) old new
