-- Merges on many entities: the lines that they name whole, and the runs in these. A line goes the way of the runs.
use Rattle.std.specs.Prelude.{◌≡◌, ◌<◌, ◌==◌, ℕ, Bool, true, false, List, [], ◌∷◌, Some, get_or, length}
use Rattle.std.specs.FinMap.{find}
use Rattle.std.specs.List.{AllByRecursion, list_any}
use Rattle.tabled_grid.specs.Axis.{across, line_of}
use Rattle.tabled_grid.specs.Grid.{Grid}
use Rattle.tabled_grid.specs.Spans.{AreSorted, SpanMap, pairs, position_cmp}
use Rattle.tabled_grid.specs.declared.config.rectangle.Rectangle.{Rectangle}
use Rattle.tabled_grid.specs.declared.config.entity.Entity.{Entity}
use Rattle.tabled_grid.specs.declared.config.entity.Entity.TheVariants.{Global, Column, Row}
use Rattle.tabled_grid.specs.declared.config.position.Position.{Position}
use Rattle.tabled_grid.specs.declared.records.axis.Axis.{Axis}
use Rattle.tabled_grid.specs.declared.records.axis.Axis.TheVariants.{Rows, Columns}
use Rattle.tabled_spans.specs.RunSteps.{IsOfRun}
use Rattle.tabled_spans.specs.Runs.{IsRun, MergesRuns, size_of_run}
use Rattle.tabled_spans.specs.declared.merge.lines.NamedLines.{NamedLines}
use Rattle.tabled_spans.specs.declared.merge.lines.NamedLines.TheVariants.{Nothing, Of, Marked}

-- the runs of one entity are merged after those of another
abbrev pub MergesEach : Axis → List Entity → Grid (List ℕ) → SpanMap → SpanMap → Type 0
MergesEach axis [] g m n = n ≡ m
MergesEach axis (e ∷ es) g m n = (k : SpanMap) × MergesRuns axis e g m k × MergesEach axis es g k n

-- an entity names a line whole: a column where runs go along the rows, a row where they go along the columns
abbrev pub names_line : Axis → Entity → ℕ → Bool
names_line axis Global line = true
names_line Rows (Column j) line = line == j
names_line Columns (Row i) line = line == i
names_line axis e line = false

-- one of some entities does
abbrev pub is_named_by : Axis → List Entity → ℕ → Bool
is_named_by axis es line = list_any (λ e. names_line axis e line) es

-- the line is one of these
abbrev pub is_among : Axis → NamedLines → ℕ → Bool
is_among axis Nothing line = false
is_among axis (Of e) line = names_line axis e line
is_among axis (Marked marks) line = get_or marks.items line false

-- marks are n
abbrev pub AreMany : ℕ → NamedLines → Type 0
AreMany many (Marked marks) = length marks.items ≡ many
AreMany many lines = Unit {0}

-- lines of n are those that some entities name whole
abbrev pub AreNamedBy : Axis → ℕ → List Entity → NamedLines → Type 0
AreNamedBy axis many es lines = (line : ℕ) → line < many → is_among axis lines line ≡ is_named_by axis es line

-- the line of a place
abbrev pub line_at : Axis → Position → ℕ
line_at axis p = line_of (across axis) p

-- the anchors and sizes of the runs in some lines, row by row
pub record RunsIn (axis : Axis) (is_in : ℕ → Bool) (g : Grid (List ℕ)) (m : SpanMap) (sizes : List Rectangle) : Type 0 where
  pub sorted : AreSorted sizes
  pub each : AllByRecursion (λ (anchor : Rectangle). (is_in (line_at axis anchor.first) ≡ true) × IsOfRun axis Global g m anchor) sizes
  pub all : (p : Position) (many : ℕ) → is_in (line_at axis p) ≡ true → IsRun axis Global g m p many → find position_cmp p (pairs sizes) ≡ Some (size_of_run axis many)
