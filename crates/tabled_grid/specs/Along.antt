-- The lines of a grid: its rows or its columns.
use Rattle.std.specs.Prelude.{ℕ, ◌==◌, if◌then◌else◌, List, map, take}
use Rattle.tabled_grid.specs.Grid.{Grid}
use Rattle.tabled_grid.specs.Resized.{without_row, without_column}
use Rattle.tabled_grid.specs.declared.records.axis.Axis.{Axis}
use Rattle.tabled_grid.specs.declared.records.axis.Axis.TheVariants.{Rows, Columns}

-- how many lines there are
abbrev pub count_along : {A : Type 0} → Axis → Grid A → ℕ
count_along Rows g = g.rows
count_along Columns g = g.columns

-- the grid with its lines changed by what changes any list to one as long
abbrev pub along : {A : Type 0} → Axis → ((X : Type 0) → List X → List X) → Grid A → Grid A
along {A} Rows f g = record g { cells = f (List A) g.cells }
along {A} Columns f g = record g { cells = map (f A) g.cells }

-- the grid with n lines, which are those that it had changed: without rows there are no columns
abbrev pub with_lines : {A : Type 0} → Axis → ℕ → ((X : Type 0) → List X → List X) → Grid A → Grid A
with_lines {A} Rows n f g = record { rows = n; columns = if n == 0 then 0 else g.columns; cells = f (List A) g.cells }
with_lines {A} Columns n f g = record g { columns = n; cells = map (f A) g.cells }

-- the grid of its first n lines
abbrev pub first_along : {A : Type 0} → Axis → ℕ → Grid A → Grid A
first_along axis n g = with_lines axis n (λ _ xs. take n xs) g

-- the grid without a line
abbrev pub without_line : {A : Type 0} → Axis → ℕ → Grid A → Grid A
without_line Rows i g = without_row g i
without_line Columns i g = without_column g i
