-- A row or a column put into a table, whose merged cells go along.
use Rattle.std.specs.Prelude.{◌≡◌, ℕ, List}
use Rattle.tabled_grid.specs.Grid.{Grid}
use Rattle.tabled_grid.specs.Resized.{with_column, with_row}
use Rattle.tabled_grid.specs.Fitting.{Fits}
use Rattle.tabled_grid.specs.Shifts.{shifted}
use Rattle.tabled_grid.specs.Spans.{SpanMap}
use Rattle.tabled_grid.specs.declared.records.axis.Axis.TheVariants.{Rows, Columns}

-- merged cells lie inside a grid and apart
abbrev pub FitsGrid : {A : Type 0} → SpanMap → Grid A → Type 0
FitsGrid m g = Fits m g.rows g.columns

-- a row of cells is put in before row i, and merged cells from there on go one row down
pub record PutsInRow {A : Type 0} (i : ℕ) (row : List A) (old : Grid A) (cfg : SpanMap) (new : Grid A) (new_cfg : SpanMap) : Type 0 where
  pub grid : new ≡ with_row old i row
  pub merged : new_cfg ≡ shifted Rows i cfg

-- a column of cells is put in before column j, and merged cells from there on go one column to the right
pub record PutsInColumn {A : Type 0} (j : ℕ) (column : List A) (old : Grid A) (cfg : SpanMap) (new : Grid A) (new_cfg : SpanMap) : Type 0 where
  pub grid : new ≡ with_column old j column
  pub merged : new_cfg ≡ shifted Columns j cfg
