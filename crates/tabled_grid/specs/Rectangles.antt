-- Rectangles of merged cells: which places they hold or reach, and which others they meet.
use Rattle.std.specs.Prelude.{◌+◌, ◌<◌, ◌≤◌, ◌&&◌, ◌==◌, if◌then◌else◌, ℕ, Bool, List, None, Some, filter_map, nat_le, nat_lt}
use Rattle.std.specs.List.{list_any}
use Rattle.tabled_grid.specs.Spans.{SpanMap, rectangles}
use Rattle.tabled_grid.specs.declared.config.position.Position.{Position}
use Rattle.tabled_grid.specs.declared.config.rectangle.Rectangle.{Rectangle}

-- the rectangle holds the place
abbrev pub holds : Rectangle → Position → Bool
holds e p = (nat_le e.first.row p.row && nat_lt p.row (e.first.row + e.size.height)) && (nat_le e.first.col p.col && nat_lt p.col (e.first.col + e.size.width))

-- the place is in the rectangle
pub record In (e : Rectangle) (p : Position) : Type 0 where
  pub top : e.first.row ≤ p.row
  pub bottom : p.row < e.first.row + e.size.height
  pub left : e.first.col ≤ p.col
  pub right : p.col < e.first.col + e.size.width

-- the rectangle has cells
pub record HasArea (e : Rectangle) : Type 0 where
  pub height : 1 ≤ e.size.height
  pub width : 1 ≤ e.size.width

-- two rectangles share a cell, where both have some
abbrev pub meets : Rectangle → Rectangle → Bool
meets a b = (nat_lt a.first.row (b.first.row + b.size.height) && nat_lt b.first.row (a.first.row + a.size.height)) && (nat_lt a.first.col (b.first.col + b.size.width) && nat_lt b.first.col (a.first.col + a.size.width))

-- each begins before the end of the other, in rows and in columns
pub record Meets (a b : Rectangle) : Type 0 where
  pub above : a.first.row < b.first.row + b.size.height
  pub below : b.first.row < a.first.row + a.size.height
  pub left : a.first.col < b.first.col + b.size.width
  pub right : b.first.col < a.first.col + a.size.width

-- the rectangle lies inside a table
abbrev pub lies_inside : ℕ → ℕ → Rectangle → Bool
lies_inside rows columns e = nat_le (e.first.row + e.size.height) rows && nat_le (e.first.col + e.size.width) columns

-- its rows and its columns end inside the table
pub record LiesInside (rows columns : ℕ) (e : Rectangle) : Type 0 where
  pub bottom : e.first.row + e.size.height ≤ rows
  pub right : e.first.col + e.size.width ≤ columns

-- an anchor in the place's row, left of it, has a width that reaches it
abbrev pub reaches_across : Rectangle → Position → Bool
reaches_across e p = (e.first.row == p.row) && (nat_lt e.first.col p.col && nat_lt p.col (e.first.col + e.size.width))

-- an anchor in the place's column, above it, has a height that reaches it
abbrev pub reaches_down : Rectangle → Position → Bool
reaches_down e p = (e.first.col == p.col) && (nat_lt e.first.row p.row && nat_lt p.row (e.first.row + e.size.height))

-- a rectangle from the left reaches the place across
abbrev pub is_covered_across : SpanMap → Position → Bool
is_covered_across m p = list_any (λ (e : Rectangle). reaches_across e p) (rectangles m)

-- a rectangle from above reaches the place down
abbrev pub is_covered_down : SpanMap → Position → Bool
is_covered_down m p = list_any (λ (e : Rectangle). reaches_down e p) (rectangles m)

-- the anchors of a list whose rectangles are wider than one column, and their widths
abbrev pub widths_in : List Rectangle → List (Position × ℕ)
widths_in es = filter_map (λ (e : Rectangle). if nat_lt 1 e.size.width then Some (e.first, e.size.width) else None) es

-- the anchors of a list whose rectangles are higher than one row, and their heights
abbrev pub heights_in : List Rectangle → List (Position × ℕ)
heights_in es = filter_map (λ (e : Rectangle). if nat_lt 1 e.size.height then Some (e.first, e.size.height) else None) es

-- the anchors whose rectangles are wider than one column, and their widths, row by row
abbrev pub column_spans : SpanMap → List (Position × ℕ)
column_spans m = widths_in (rectangles m)

-- the anchors whose rectangles are higher than one row, and their heights, row by row
abbrev pub row_spans : SpanMap → List (Position × ℕ)
row_spans m = heights_in (rectangles m)
