-- Runs of equal neighbours in rows or in columns, and the map in which each is one rectangle.
use Rattle.std.specs.Prelude.{◌≡◌, ◌+◌, ◌-◌, ◌<◌, ◌≤◌, ◌⊎◌, ◌&&◌, ℕ, Bool, List, Some, true}
use Rattle.tabled_grid.specs.Axis.{in_line, line_of, resized}
use Rattle.tabled_grid.specs.Entity.{names}
use Rattle.tabled_grid.specs.Grid.{Grid, IsInside, cell_at, map_grid}
use Rattle.tabled_grid.specs.Hidden.{is_visible}
use Rattle.tabled_grid.specs.Spans.{SpanMap, empty, get, is_cell, size_at, sized}
use Rattle.tabled_grid.specs.declared.config.entity.Entity.{Entity}
use Rattle.tabled_grid.specs.declared.config.position.Position.{Position}
use Rattle.tabled_grid.specs.declared.records.axis.Axis.{Axis}
use Rattle.tabled_grid.specs.declared.config.size.Size.{Size}
use Rattle.tabled_options.specs.Does.{Change}

-- the place n rows (or columns) further
abbrev pub further : Axis → ℕ → Position → Position
further axis k p = in_line axis p (line_of axis p + k)

-- the size of n rows (or columns) of one cell
abbrev pub size_of_run : Axis → ℕ → Size
size_of_run axis many = resized axis (sized 1 1) many

-- the cell is visible and no anchor
abbrev pub is_free : SpanMap → Position → Bool
is_free m p = is_visible m p && is_cell (size_at m p)

-- a cell of the table that an entity names
pub record IsNamed {A : Type 0} (e : Entity) (g : Grid A) (p : Position) : Type 0 where
  pub inside : IsInside g p
  pub named : names e p ≡ true

-- an entity names no cell of the table together with the next one along an axis
abbrev pub NamesNoNeighbours : {A : Type 0} → Axis → Entity → Grid A → Type 0
NamesNoNeighbours axis e g = (p : Position) → IsNamed e g p → IsNamed e g (further axis 1 p) → ⊥

-- a cell and the next one along an axis are named by an entity, are visible and no anchors, and have equal texts
pub record Joins (axis : Axis) (e : Entity) (g : Grid (List ℕ)) (m : SpanMap) (p : Position) : Type 0 where
  pub here : IsNamed e g p
  pub next : IsNamed e g (further axis 1 p)
  pub free : is_free m p ≡ true
  pub next_free : is_free m (further axis 1 p) ≡ true
  pub same : cell_at g p ≡ cell_at g (further axis 1 p)

-- two cells or more from a place on, each of which joins the next one; the last joins none, and none joins the first
pub record IsRun (axis : Axis) (e : Entity) (g : Grid (List ℕ)) (m : SpanMap) (p : Position) (many : ℕ) : Type 0 where
  pub some : 2 ≤ many
  pub joins : (k : ℕ) → k + 1 < many → Joins axis e g m (further axis k p)
  pub ends : Joins axis e g m (further axis (many - 1) p) → ⊥
  pub begins : (q : Position) → further axis 1 q ≡ p → Joins axis e g m q → ⊥

-- without merged cells, neighbours with equal texts join
abbrev pub JoinsIfEqual : Axis → Entity → Grid (List ℕ) → Position → Type 0
JoinsIfEqual axis e g p = cell_at g p ≡ cell_at g (further axis 1 p) → Joins axis e g empty p

-- a run among cells that were not merged is a rectangle of the map
abbrev pub RunIsMerged : Axis → Entity → Grid (List ℕ) → SpanMap → Position → ℕ → Type 0
RunIsMerged axis e g m p many = IsRun axis e g empty p many → get m p ≡ Some (size_of_run axis many)

-- a rectangle of the map is a run among cells that were not merged
abbrev pub MergedIsRun : Axis → Entity → Grid (List ℕ) → SpanMap → Position → Size → Type 0
MergedIsRun axis e g m p size = get m p ≡ Some size → (many : ℕ) × IsRun axis e g empty p many × (size ≡ size_of_run axis many)

-- the map with a rectangle for each run among the cells of an entity, anchored at its first cell, and with all others as they were
pub record MergesRuns (axis : Axis) (e : Entity) (g : Grid (List ℕ)) (m n : SpanMap) : Type 0 where
  pub each : (p : Position) → ((many : ℕ) × IsRun axis e g m p many × (get n p ≡ Some (size_of_run axis many))) ⊎ (((many : ℕ) → IsRun axis e g m p many → ⊥) × (get n p ≡ get m p))

-- the runs among the cells of an entity are merged, and cells stay
abbrev pub Merges : {A : Type 0} → (A → List ℕ) → Axis → Entity → Change A SpanMap
Merges text_of axis e old cfg new new_cfg = (new ≡ old) × MergesRuns axis e (map_grid text_of old) cfg new_cfg
