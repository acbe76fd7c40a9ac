-- What is written of a table.
use Rattle.std.specs.Prelude.{◌<◌, ◌^◌, ℕ, List}
use Rattle.tabled_grid.specs.Fitting.{Fits}
use Rattle.tabled_grid.specs.Grid.{Grid}
use Rattle.tabled_grid.specs.Spans.{SpanMap}
use Rattle.tabled_html.specs.Looks.{Look}

-- the texts of its cells, its merged cells, and how it looks
pub record Written : Type 0 where
  pub texts : Grid (List ℕ)
  pub merged : SpanMap
  pub look : Look

-- a grid of texts with merged cells, in a look
abbrev pub written_as : Grid (List ℕ) → SpanMap → Look → Written
written_as g m look = record { texts = g; merged = m; look = look }

-- the merged cells fit the table, and its rows can be counted
pub record IsSound (w : Written) : Type 0 where
  pub fits : Fits w.merged w.texts.rows w.texts.columns
  pub counted : w.texts.rows < 2 ^ 64
