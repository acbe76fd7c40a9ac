-- Borders: which lines are drawn, and the characters of straight borders and of corners.
use Rattle.std.specs.Prelude.{◌+◌, ◌==◌, ◌&&◌, ◌||◌, if◌then◌else◌, ℕ, Bool, false, true, List, [], Option, None, Some, nat_lt, not, replicate, slice_index_or}
use Rattle.tabled_draw.specs.Owners.{Owner}
use Rattle.tabled_draw.specs.declared.style.Lines.{Lines}
use Rattle.tabled_draw.specs.declared.style.Style.{Style}
use Rattle.tabled_grid.specs.Along.{count_along}
use Rattle.tabled_grid.specs.Entity.{same_place}
use Rattle.tabled_grid.specs.Grid.{Grid}
use Rattle.tabled_grid.specs.declared.records.axis.Axis.{Axis}
use Rattle.tabled_grid.specs.declared.records.axis.Axis.TheVariants.{Rows, Columns}

-- ---- which lines are drawn

-- the k-th line is drawn of those around n rows, or around n columns
abbrev pub is_drawn : Lines → ℕ → ℕ → Bool
is_drawn lines n k = ((k == 0 && lines.first) || (k == n && lines.last)) || ((k == 1 && lines.second) || ((nat_lt 0 k && nat_lt k n) && lines.inner))

-- the size of a line: it is one character high, or wide, if it is drawn
abbrev pub size_if : Bool → ℕ
size_if drawn = if drawn then 1 else 0

-- the size of the k-th line around n rows, or around n columns
abbrev pub line_size : Lines → ℕ → ℕ → ℕ
line_size lines n k = size_if (is_drawn lines n k)

-- the lines around rows, or around columns
abbrev pub lines_around : Axis → Style → Lines
lines_around Rows style = style.rows
lines_around Columns style = style.columns

-- the size of the k-th line around the rows, or the columns, of a table
abbrev pub border : Axis → Style → Grid (List ℕ) → ℕ → ℕ
border axis style g k = line_size (lines_around axis style) (count_along axis g) k

-- ---- what borders look like

-- a border lies between two places that have not one owner: outside the table there is none
abbrev pub differ : Owner → Owner → Bool
differ None None = false
differ None (Some q) = true
differ (Some p) None = true
differ (Some p) (Some q) = not (same_place p.first q.first)

-- the arms of a corner: the borders that end there
pub record Arms : Type 0 where
  pub up : Bool
  pub right : Bool
  pub down : Bool
  pub left : Bool

-- the arms where four places meet, two above two
abbrev pub arms : Owner → Owner → Owner → Owner → Arms
arms a b c d = record { up = differ a b; right = differ b d; down = differ c d; left = differ a c }

-- the arms of the upper left corner of row i and column j, where no cells are merged
abbrev pub unmerged_arms : ℕ → ℕ → ℕ → ℕ → Arms
unmerged_arms rows columns i j = record { up = nat_lt 0 i; right = nat_lt j columns; down = nat_lt i rows; left = nat_lt 0 j }

-- no arm
abbrev pub are_none : Arms → Bool
are_none a = not ((a.up || a.right) || (a.down || a.left))

-- what an arm counts
abbrev pub weight : Bool → ℕ → ℕ
weight is n = if is then n else 0

-- one arm and no other
abbrev pub are_one : Arms → Bool
are_one a = weight a.up 1 + weight a.right 1 + weight a.down 1 + weight a.left 1 == 1

-- the number of a set of arms, in which each has a binary digit
abbrev pub number : Arms → ℕ
number a = weight a.up 8 + weight a.right 4 + weight a.down 2 + weight a.left 1

-- the character of a corner with these arms
abbrev pub corner : Style → Arms → ℕ
corner style a = slice_index_or style.corners (number a) 32

-- the character of a corner, if it has an arm
abbrev pub corner_if : Style → Arms → Option ℕ
corner_if style a = if are_none a then None else Some (corner style a)

-- the character of a border that runs through a row, or of a corner between two
abbrev pub mark : Style → Bool → Arms → ℕ
mark style is_row a = if is_row then style.vertical else corner style a

-- what stands on a line of some size where four places meet, two above two, or two of a row: nothing where no arm meets
abbrev pub edge : Style → Bool → ℕ → Owner → Owner → Owner → Owner → List ℕ
edge style is_row size a b c d = if are_none (arms a b c d) then [] else replicate size (mark style is_row (arms a b c d))
