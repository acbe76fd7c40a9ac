-- What selectors that are data name in a table of texts.
use Rattle.std.specs.Prelude.{ℕ, ◌-◌, List, [], ◌∷◌, None, Option, Some, drop}
use Rattle.std.specs.declared.ops.Bound.{Bound}
use Rattle.std.specs.declared.ops.Bound.TheVariants.{Excluded, Included}
use Rattle.std.specs.String.{string_bytes}
use Rattle.tabled_grid.specs.Grid.{Grid}
use Rattle.tabled_grid.specs.Entity.{place}
use Rattle.tabled_grid.specs.Bounds.{indexes}
use Rattle.tabled_grid.specs.declared.config.entity.Entity.{Entity}
use Rattle.tabled_grid.specs.declared.config.entity.Entity.TheVariants as entity
use Rattle.tabled_select.specs.Algebra.{cells_of, flat, named_by_both, named_without, others, union_of}
use Rattle.tabled_select.specs.Locators.{columns_with, places_with}
use Rattle.tabled_select.specs.Selectors.{before_last, columns_of, everything, frame, if_cells, index_from_last, past_last, rows_of, segment}
use Rattle.tabled_select.specs.Steps.{every}
use Rattle.tabled_steps.specs.declared.select.Select.{Select}
use Rattle.tabled_steps.specs.declared.select.Select.TheVariants as select

-- the bounds of a range that has its start and lacks its end
abbrev pub half_open : ℕ → ℕ → Bound ℕ × Bound ℕ
half_open a b = (Included a, Excluded b)

-- the cells of both of two lists of entities, each once
abbrev pub united : Grid (List ℕ) → List Entity → List Entity → List Entity
united g x y = cells_of (union_of (flat x g.rows g.columns) (flat y g.rows g.columns))

-- the cells of the first that aren't of the second
abbrev pub without : Grid (List ℕ) → List Entity → List Entity → List Entity
without g x y = cells_of (named_without x y g.rows g.columns)

-- the cells of the first that are of the second, too
abbrev pub shared : Grid (List ℕ) → List Entity → List Entity → List Entity
shared g x y = cells_of (named_by_both x y g.rows g.columns)

-- the cells with a text
abbrev pub with_content : List ℕ → Grid (List ℕ) → List Entity
with_content text g = cells_of (places_with text g)

-- the columns with a text in the first row
abbrev pub named_columns : List ℕ → Grid (List ℕ) → List Entity
named_columns text g = columns_of (columns_with text g)

-- the entities that a selector names in a table of texts, in order
abbrev pub selected : Grid (List ℕ) → Select → List Entity
selected g select.All = everything
selected g (select.Cell i j) = cells_of (place i j ∷ [])
selected g (select.Row i) = rows_of (i ∷ [])
selected g (select.Column j) = columns_of (j ∷ [])
selected g select.FirstRow = if_cells g.rows g.columns (rows_of (0 ∷ []))
selected g select.LastRow = if_cells g.rows g.columns (rows_of ((g.rows - 1) ∷ []))
selected g select.FirstColumn = if_cells g.rows g.columns (columns_of (0 ∷ []))
selected g select.LastColumn = if_cells g.rows g.columns (columns_of ((g.columns - 1) ∷ []))
selected g (select.LastRowMinus n) = if_cells g.rows g.columns (rows_of (index_from_last (before_last n) g.rows))
selected g (select.LastRowPlus n) = if_cells g.rows g.columns (rows_of (index_from_last (past_last n) g.rows))
selected g (select.LastColumnMinus n) = columns_of (index_from_last (before_last n) g.columns)
selected g (select.LastColumnPlus n) = columns_of (index_from_last (past_last n) g.columns)
selected g (select.Rows a b) = rows_of (indexes (half_open a b) g.rows)
selected g (select.Columns a b) = columns_of (indexes (half_open a b) g.columns)
selected g (select.Segment a b c d) = cells_of (segment (half_open a b) (half_open c d) g.rows g.columns)
selected g select.Frame = cells_of (frame g.rows g.columns)
selected g (select.Content text) = with_content (string_bytes text) g
selected g (select.Name text) = named_columns (string_bytes text) g
selected g (select.And' _ x _ y) = united g (selected g x) (selected g y)
selected g (select.Not' _ x _ y) = without g (selected g x) (selected g y)
selected g (select.Intersect' _ x _ y) = shared g (selected g x) (selected g y)
selected g (select.Inverse' _ x) = others (selected g x) g.rows g.columns
selected g (select.Skip' n _ x) = drop n (selected g x)
selected g (select.StepBy' n _ x) = every n (selected g x)

-- the one entity that a selector names in any table, where that is known without one
abbrev pub single : Select → Option Entity
single select.All = Some entity.Global
single (select.Cell i j) = Some (entity.Cell i j)
single (select.Row i) = Some (entity.Row i)
single (select.Column j) = Some (entity.Column j)
single _ = None

-- what names entities in a table of texts, in order
abbrev pub Named : Type 0
Named = Grid (List ℕ) → List Entity

-- what a selector names
abbrev pub named_by : Select → Named
named_by select g = selected g select
