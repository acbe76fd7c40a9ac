-- Rows or columns of blanks put in, or put after the last one.
use Rattle.std.specs.Prelude.{ℕ}
use Rattle.tabled_grid.specs.Bulk.{AddsColumns, AddsRows}
use Rattle.tabled_grid.specs.Grid.{Grid}
use Rattle.tabled_grid.specs.Resized.{InsertsColumn, InsertsRow}
use Rattle.tabled_grid.specs.declared.records.axis.Axis.{Axis}
use Rattle.tabled_grid.specs.declared.records.axis.Axis.TheVariants.{Rows, Columns}

-- n lines of blanks are put after the last one
abbrev pub AddsLines : {A : Type 0} → (A → Type 0) → Axis → ℕ → Grid A → Grid A → Type 0
AddsLines is_blank Rows many old new = AddsRows is_blank many old new
AddsLines is_blank Columns many old new = AddsColumns is_blank many old new

-- a line of blanks is inserted before another
abbrev pub InsertsLine : {A : Type 0} → (A → Type 0) → Axis → Grid A → Grid A → ℕ → Type 0
InsertsLine is_blank Rows old new i = InsertsRow is_blank old new i
InsertsLine is_blank Columns old new j = InsertsColumn is_blank old new j
