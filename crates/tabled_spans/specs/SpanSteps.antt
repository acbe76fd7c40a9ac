-- What a span over visible cells changes at one place after another.
use Rattle.std.specs.Prelude.{◌≡◌, ◌+◌, ◌-◌, ◌<◌, ◌≤◌, ℕ, min, List, [], ◌∷◌, if◌then◌else◌}
use Rattle.tabled_grid.specs.Covers.{Cover, IsCoverOf}
use Rattle.tabled_grid.specs.Rectangles.{In}
use Rattle.tabled_grid.specs.Spans.{SpanMap, rectangle, size_at}
use Rattle.tabled_grid.specs.declared.config.position.Position.{Position}
use Rattle.tabled_grid.specs.declared.config.rectangle.Rectangle.{Rectangle}
use Rattle.tabled_grid.specs.declared.records.axis.Axis.{Axis}
use Rattle.tabled_grid.specs.Axis.{line_of, lines_in, resized}
use Rattle.tabled_spans.specs.Spanned.{are_visible}

-- the new size at a place, if n cells from there on are all visible
abbrev pub change_at : Axis → SpanMap → Position → ℕ → List Rectangle
change_at axis m p many = if are_visible axis m p many then rectangle p (resized axis (size_at m p) many) ∷ [] else []

-- P holds of each map with these covered cells that has at a place the size that another has there
abbrev pub ForEachCovered : Cover → SpanMap → Position → (SpanMap → Type 0) → Type 0
ForEachCovered cover cfg p P = (m : SpanMap) → IsCoverOf m cover → size_at m p ≡ size_at cfg p → P m

-- the cells that a span takes from a place on, cut at the last of n rows or columns, lie in a block
pub record InReach (axis : Axis) (size n : ℕ) (block : Rectangle) (p : Position) : Type 0 where
  pub inside : In block p
  pub line : line_of axis p < n
  pub end : line_of axis p + min size (n - line_of axis p) ≤ line_of axis block.first + lines_in axis block.size
