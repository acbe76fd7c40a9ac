-- The steps in which runs are found, row by row.
use Rattle.std.specs.Prelude.{◌≡◌, ◌↔◌, ◌+◌, ◌-◌, ◌<◌, ◌≤◌, ◌⊎◌, ℕ, List, Some, drop, length, slice_index}
use Rattle.std.specs.FinMap.{find}
use Rattle.std.specs.List.{AllByRecursion}
use Rattle.tabled_grid.specs.Grid.{Grid}
use Rattle.tabled_grid.specs.Spans.{AreSorted, SpanMap, pairs, position_cmp, rectangles}
use Rattle.tabled_grid.specs.declared.config.entity.Entity.{Entity}
use Rattle.tabled_grid.specs.declared.config.position.Position.{Position}
use Rattle.tabled_grid.specs.declared.config.rectangle.Rectangle.{Rectangle}
use Rattle.tabled_grid.specs.declared.records.axis.Axis.{Axis}
use Rattle.tabled_spans.specs.Runs.{IsNamed, IsRun, Joins, further, size_of_run}
use Rattle.tabled_grid.specs.Entity.{place}
use Rattle.tabled_grid.specs.Order.{IsBefore}
use Rattle.tabled_grid.specs.Rectangles.{In}

-- a run of n cells begins at the place, or none where that is below 2
pub record RunAt (axis : Axis) (e : Entity) (g : Grid (List ℕ)) (m : SpanMap) (p : Position) (many : ℕ) : Type 0 where
  pub is : 2 ≤ many → IsRun axis e g m p many
  pub none : many ≤ 1 → (n : ℕ) → IsRun axis e g m p n → ⊥

-- the anchor and the size of a run
abbrev pub IsOfRun : Axis → Entity → Grid (List ℕ) → SpanMap → Rectangle → Type 0
IsOfRun axis e g m anchor = (many : ℕ) × IsRun axis e g m anchor.first many × (anchor.size ≡ size_of_run axis many)

-- the anchors and sizes of all runs, row by row
pub record RunsOf (axis : Axis) (e : Entity) (g : Grid (List ℕ)) (m : SpanMap) (sizes : List Rectangle) : Type 0 where
  pub sorted : AreSorted sizes
  pub each : AllByRecursion (IsOfRun axis e g m) sizes
  pub all : (p : Position) (many : ℕ) → IsRun axis e g m p many → find position_cmp p (pairs sizes) ≡ Some (size_of_run axis many)

-- the anchors and sizes of all runs that begin in a block, at a place or after it, row by row
pub record RunsFrom (axis : Axis) (e : Entity) (g : Grid (List ℕ)) (m : SpanMap) (block : Rectangle) (i j : ℕ) (sizes : List Rectangle) : Type 0 where
  pub sorted : AreSorted sizes
  pub from : AllByRecursion (λ (anchor : Rectangle). IsBefore anchor.first (place i j) → ⊥) sizes
  pub inside : AllByRecursion (λ (anchor : Rectangle). In block anchor.first) sizes
  pub each : AllByRecursion (IsOfRun axis e g m) sizes
  pub all : (p : Position) (many : ℕ) → IsRun axis e g m p many → In block p → (IsBefore p (place i j) → ⊥) → find position_cmp p (pairs sizes) ≡ Some (size_of_run axis many)

-- the cell and those after it along the axis, as far as each joins the next one
pub record IsTail (axis : Axis) (e : Entity) (g : Grid (List ℕ)) (m : SpanMap) (p : Position) (many : ℕ) : Type 0 where
  pub some : 1 ≤ many
  pub joins : (k : ℕ) → k + 1 < many → Joins axis e g m (further axis k p)
  pub ends : Joins axis e g m (further axis (many - 1) p) → ⊥

-- the cells of the table that an entity names are those of a block
abbrev pub AreInBlock : Entity → Grid (List ℕ) → Rectangle → Type 0
AreInBlock e g block = (p : Position) → IsNamed e g p ↔ In block p

-- an entity names the cells of a block, and none beside them along an axis
pub record IsBand (axis : Axis) (e : Entity) (g : Grid (List ℕ)) (block : Rectangle) : Type 0 where
  pub named : (p : Position) → In block p → IsNamed e g p
  pub next : (p : Position) → In block p → IsNamed e g (further axis 1 p) → In block (further axis 1 p)
  pub back : (p : Position) → In block (further axis 1 p) → IsNamed e g p → In block p

-- the length of the tail of each cell of a block before a place, row by row, whose next one isn't before it, at the cell's column
pub record AreTails (axis : Axis) (e : Entity) (g : Grid (List ℕ)) (m : SpanMap) (block : Rectangle) (i j : ℕ) (lengths : List ℕ) : Type 0 where
  pub size : length lengths ≡ block.size.width
  pub each : (p : Position) → In block p → IsBefore p (place i j) → (In block (further axis 1 p) → IsBefore (further axis 1 p) (place i j) → ⊥) → IsTail axis e g m p (slice_index lengths (p.col - block.first.col))

-- all but the first n anchors stand in the rows below one
pub record StandBelow (m : SpanMap) (row many : ℕ) : Type 0 where
  pub within : many ≤ length (rectangles m)
  pub below : AllByRecursion (λ (e : Rectangle). row < e.first.row) (drop many (rectangles m))

-- of each entity of which a block is a band: the anchors and sizes of all runs that begin in the block, row by row
abbrev pub AreRunsIn : Axis → Grid (List ℕ) → SpanMap → Rectangle → List Rectangle → Type 0
AreRunsIn axis g m block sizes = (e : Entity) → IsBand axis e g block → RunsFrom axis e g m block 0 0 sizes

-- likewise, that a run of n cells begins at a place, or none where that is below 2
abbrev pub IsRunIn : Axis → Grid (List ℕ) → SpanMap → Rectangle → Position → ℕ → Type 0
IsRunIn axis g m block p many = (e : Entity) → IsBand axis e g block → RunAt axis e g m p many

-- likewise, the lengths of the tails before a place
abbrev pub AreTailsIn : Axis → Grid (List ℕ) → SpanMap → Rectangle → ℕ → ℕ → List ℕ → Type 0
AreTailsIn axis g m block i j lengths = (e : Entity) → IsBand axis e g block → AreTails axis e g m block i j lengths

-- an answer is yes where a cell joins another, of each entity that names both
abbrev pub TellsJoins : Axis → Grid (List ℕ) → SpanMap → Position → Position → Type 0 → Type 0
TellsJoins axis g m p next told = (e : Entity) → IsNamed e g p → IsNamed e g next → (told ↔ Joins axis e g m p)
