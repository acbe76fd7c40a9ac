-- What holds of rectangles while a span option sets one after another: they may meet, and lie inside.
use Rattle.std.specs.Prelude.{◌≡◌, ◌+◌, ◌<◌, ◌≤◌, ◌⊎◌, ℕ}
use Rattle.tabled_grid.specs.Rectangles.{In}
use Rattle.tabled_grid.specs.Spans.{SpanMap, rectangle, size_at}
use Rattle.tabled_grid.specs.declared.config.position.Position.{Position}
use Rattle.tabled_grid.specs.declared.config.size.Size.{Size}

-- the size of the rectangle at each place, that of one cell where nothing is merged
abbrev pub Sizes : Type 0
Sizes = Position → Size

-- of two rectangles that share a cell, one has its first cell in the other
pub record Hooked (s : Sizes) : Type 0 where
  pub hook : (a b p : Position) → In (rectangle a (s a)) p → In (rectangle b (s b)) p → In (rectangle a (s a)) b ⊎ In (rectangle b (s b)) a

-- each rectangle of more than one cell lies inside a table
pub record LieWithin (s : Sizes) (rows columns : ℕ) : Type 0 where
  pub tall : (a : Position) → (1 < (s a).height) ⊎ (1 < (s a).width) → a.row + (s a).height ≤ rows
  pub wide : (a : Position) → (1 < (s a).height) ⊎ (1 < (s a).width) → a.col + (s a).width ≤ columns

-- all heights are 1
pub record Flat (s : Sizes) : Type 0 where
  pub height : (a : Position) → (s a).height ≡ 1

-- all widths are 1
pub record Narrow (s : Sizes) : Type 0 where
  pub width : (a : Position) → (s a).width ≡ 1

-- all rectangles lie inside a table, and of two that share a cell, one has its first cell in the other
pub record Midway (m : SpanMap) (rows columns : ℕ) : Type 0 where
  pub hooked : Hooked (size_at m)
  pub within : LieWithin (size_at m) rows columns
