-- Merged cells when a line, which is a row or a column, is put in: anchors from it on go one further.
use Rattle.std.specs.Prelude.{◌+◌, ◌^◌, ◌&&◌, if◌then◌else◌, ℕ, Bool, List, None, Option, Some, filter_map, nat_lt}
use Rattle.std.specs.List.{list_any}
use Rattle.std.specs.Option.{option_map}
use Rattle.tabled_grid.specs.Axis.{line_of, lines_in, next_line}
use Rattle.tabled_grid.specs.Spans.{SpanMap, map_of, rectangle, rectangles}
use Rattle.tabled_grid.specs.declared.config.position.Position.{Position}
use Rattle.tabled_grid.specs.declared.config.rectangle.Rectangle.{Rectangle}
use Rattle.tabled_grid.specs.declared.records.axis.Axis.{Axis}

-- where a place is once a line is put in before line `from`: none where no index is left for it
abbrev pub shifted_place : Axis → ℕ → Position → Option Position
shifted_place axis from p = if nat_lt (line_of axis p) from then Some p else (if nat_lt (line_of axis p + 1) (2 ^ 64) then Some (next_line axis p) else None)

-- an anchor there, with the size that it had
abbrev pub shifted_anchor : Axis → ℕ → Rectangle → Option Rectangle
shifted_anchor axis from e = option_map (λ (p : Position). rectangle p e.size) (shifted_place axis from e.first)

-- the anchors of a list where they are once a line is put in
abbrev pub shifted_in : Axis → ℕ → List Rectangle → List Rectangle
shifted_in axis from es = filter_map (shifted_anchor axis from) es

-- the map once a line is put in before line `from`: all its anchors from there on go one further, at once
abbrev pub shifted : Axis → ℕ → SpanMap → SpanMap
shifted axis from m = map_of (shifted_in axis from (rectangles m))

-- the rectangle of an anchor begins before a line and holds a cell of it
abbrev pub crosses_line : Axis → ℕ → Rectangle → Bool
crosses_line axis line e = nat_lt (line_of axis e.first) line && nat_lt line (line_of axis e.first + lines_in axis e.size)

-- one of the rectangles does
abbrev pub is_crossed : Axis → ℕ → SpanMap → Bool
is_crossed axis line m = list_any (crosses_line axis line) (rectangles m)
