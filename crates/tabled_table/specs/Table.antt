-- A table: its cells and its merged cells.
use Rattle.std.specs.Prelude.{String}
use Rattle.std.specs.Global.{Global}
use Rattle.tabled_grid.specs.Grid.{Grid}
use Rattle.tabled_grid.specs.Spans.{SpanMap}

-- the grid of cells, and the map of spans
pub record Table : Type 0 where
  pub cells : Grid (String Global)
  pub spans : SpanMap
