-- Spans: how cells next to each other are merged, and what becomes of their texts.
-- A span of rows goes along the rows, over the cells of a column; a span of columns along the columns.
use Rattle.std.specs.Prelude.{◌≡◌, ◌<◌, ◌<ℤ◌, ◌+◌, ◌-◌, ◌⊎◌, Bool, ℕ, suc, ℤ, pos, negsuc, min, Option, None, Some, List, [], ◌∷◌, length, map, ◌++◌, if◌then◌else◌}
use Rattle.std.specs.List.{AllByRecursion, fold, list_all, range_with_len}
use Rattle.std.specs.Option.{unwrap_or}
use Rattle.tabled_grid.specs.Axis.{count_of, in_line, line_of, with_span}
use Rattle.tabled_grid.specs.Entity.{inside}
use Rattle.tabled_grid.specs.Grid.{Grid, cell_at, map_grid}
use Rattle.tabled_grid.specs.Midway.{Flat, Midway, Narrow}
use Rattle.tabled_grid.specs.Hidden.{drop_hidden, is_visible}
use Rattle.tabled_grid.specs.Spans.{SpanMap, size_at}
use Rattle.tabled_grid.specs.declared.config.entity.Entity.{Entity}
use Rattle.tabled_grid.specs.declared.config.position.Position.{Position}
use Rattle.tabled_grid.specs.declared.records.axis.Axis.{Axis}
use Rattle.tabled_grid.specs.declared.records.axis.Axis.TheVariants.{Rows, Columns}
use Rattle.tabled_options.specs.Does.{Change}
use Rattle.tabled_options.specs.Writes.{SameOrFirstWrites, Write, at_each, with_writes}

-- the place in n rows or columns, from one on
abbrev pub stretch : Axis → Position → ℕ → ℕ → List Position
stretch axis p first many = map (in_line axis p) (range_with_len first many)

-- n cells from a place on are all visible
abbrev pub are_visible : Axis → SpanMap → Position → ℕ → Bool
are_visible axis m p many = list_all (is_visible m) (stretch axis p (line_of axis p) many)

-- the map with a span over n cells from a place on, if they are all visible
abbrev pub with_visible_span : Axis → SpanMap → Position → ℕ → SpanMap
with_visible_span axis m p many = if are_visible axis m p many then with_span axis m p many else m

-- the map after a span of n cells from a place on, cut at the last of n rows or columns
abbrev pub grown_at : Axis → ℕ → ℕ → SpanMap → Position → SpanMap
grown_at axis size n m p = with_visible_span axis m p (min size (n - line_of axis p))

-- the map after such a span at each place, in order
abbrev pub grown_each : Axis → ℕ → ℕ → SpanMap → List Position → SpanMap
grown_each axis size n = fold (grown_at axis size n)

-- the map after such a span at each place of a table that an entity names
abbrev pub grown_on : Axis → ℕ → Entity → ℕ → ℕ → SpanMap → SpanMap
grown_on axis size e rows columns m = grown_each axis size (count_of axis rows columns) m (inside e rows columns)

-- the same, and then hidden anchors go at once
abbrev pub grown : Axis → ℕ → Entity → ℕ → ℕ → SpanMap → SpanMap
grown axis size e rows columns m = drop_hidden (grown_on axis size e rows columns m)

-- such spans at places of a table keep that merged cells lie inside it, and that of two that share a cell one begins in the other
abbrev pub KeepsMidway : Axis → ℕ → List Position → SpanMap → ℕ → ℕ → Type 0
KeepsMidway axis size places m rows columns = AllByRecursion (λ (p : Position). (p.row < rows) × (p.col < columns)) places → Midway m rows columns → Midway (grown_each axis size (count_of axis rows columns) m places) rows columns

-- how many cells back a span of size 0 or below takes, or all of the line
abbrev pub back_of : ℤ → Option ℕ
back_of (pos n) = None
back_of (negsuc n) = Some (n + 1)

-- the first of n rows or columns that it takes, back from index j, and how many it takes
abbrev pub taken : Option ℕ → ℕ → ℕ → ℕ × ℕ
taken None n j = (0, n)
taken (Some back) n j = (j - back, min back j + 1)

-- the map after a span over all cells that it takes, visible or not
abbrev pub pulled_at : Axis → Option ℕ → ℕ → SpanMap → Position → SpanMap
pulled_at axis back n m p = let cells = taken back n (line_of axis p) in with_span axis m (in_line axis p cells.0) cells.1

-- the map after such a span at each place, in order
abbrev pub pulled_each : Axis → Option ℕ → ℕ → SpanMap → List Position → SpanMap
pulled_each axis back n = fold (pulled_at axis back n)

-- the map after such a span at each place of a table that an entity names
abbrev pub pulled_on : Axis → Option ℕ → Entity → ℕ → ℕ → SpanMap → SpanMap
pulled_on axis back e rows columns m = pulled_each axis back (count_of axis rows columns) m (inside e rows columns)

-- the same, and then hidden anchors go at once
abbrev pub pulled : Axis → Option ℕ → Entity → ℕ → ℕ → SpanMap → SpanMap
pulled axis back e rows columns m = drop_hidden (pulled_on axis back e rows columns m)

-- the map after a span of a size on an entity
abbrev pub spanned : Axis → ℤ → Entity → ℕ → ℕ → SpanMap → SpanMap
spanned axis (pos (suc size)) = grown axis (suc size)
spanned axis size = pulled axis (back_of size)

-- no text for the place in each of n rows or columns, from one on
abbrev pub emptying : Axis → Position → ℕ → ℕ → List Write
emptying axis p first many = at_each [] (stretch axis p first many)

-- the text of a place for the first of the cells that a span takes, and no text for the others
abbrev pub pulling : Axis → Position → ℕ × ℕ → Grid (List ℕ) → List Write
pulling axis p cells g = record { place = in_line axis p cells.0; text = unwrap_or (cell_at g p) [] } ∷ emptying axis p (cells.0 + 1) (cells.1 - 1)

-- what such a span writes at one place after another, each with the texts as they then stand
abbrev pub pull_writes : Axis → Option ℕ → ℕ → List Position → Grid (List ℕ) → List Write
pull_writes axis back n [] g = []
pull_writes axis back n (p ∷ places) g = let writes = pulling axis p (taken back n (line_of axis p)) g in writes ++ pull_writes axis back n places (with_writes writes g)

-- what it writes on an entity
abbrev pub pull_writes_on : Axis → Option ℕ → Entity → Grid (List ℕ) → List Write
pull_writes_on axis back e g = pull_writes axis back (count_of axis g.rows g.columns) (inside e g.rows g.columns) g

-- what a span of a size writes on an entity
abbrev pub span_writes : Axis → ℤ → Entity → Grid (List ℕ) → List Write
span_writes axis (pos (suc size)) e g = []
span_writes axis size e g = pull_writes_on axis (back_of size) e g

-- what a span of a size does on an entity
pub record Spans {A : Type 0} (text_of : A → List ℕ) (axis : Axis) (size : ℤ) (e : Entity) (old : Grid A) (cfg : SpanMap) (new : Grid A) (new_cfg : SpanMap) : Type 0 where
  pub texts : map_grid text_of new ≡ with_writes (span_writes axis size e (map_grid text_of old)) (map_grid text_of old)
  pub cells : pos 0 <ℤ size → new ≡ old
  pub spans : new_cfg ≡ spanned axis size e old.rows old.columns cfg

-- what it leaves where it is refused: all as it was, or the writes before one of its own, with the merged cells as they were
abbrev pub SpansFirst : {A : Type 0} → (A → List ℕ) → Axis → ℤ → Entity → Change A SpanMap
SpansFirst text_of axis size e = SameOrFirstWrites text_of (span_writes axis size e)

-- a span takes no memory on no cell of a table, and one of size 1 takes none on one cell
abbrev pub SpanTakesNoMemory : ℤ → Entity → ℕ → ℕ → Type 0
SpanTakesNoMemory size e rows columns = (inside e rows columns ≡ []) ⊎ ((size ≡ pos 1) × (length (inside e rows columns) ≡ 1))

-- no rectangle has more than one line: one column for spans of rows, one row for spans of columns
abbrev pub IsFlat : Axis → SpanMap → Type 0
IsFlat Rows m = Narrow (size_at m)
IsFlat Columns m = Flat (size_at m)
