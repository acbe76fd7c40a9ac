-- Two tables joined.
use Rattle.std.specs.Prelude.{◌≡◌, ◌<◌, ◌≤◌, ◌⊎◌, ℕ, ◌+◌, ◌-◌, ◌&&◌, if◌then◌else◌, List, [], Option, None, Some, String, max, nat_le, nat_lt, string_bytes}
use Rattle.std.specs.Global.{Global}
use Rattle.std.specs.Option.{unwrap_or}
use Rattle.tabled_grid.specs.Entity.{place}
use Rattle.tabled_grid.specs.Grid.{Grid, IsEven, cell_at, map_grid}
use Rattle.tabled_grid.specs.Order.{IsBefore}
use Rattle.tabled_grid.specs.declared.config.position.Position.{Position}
use Rattle.tabled_grid.specs.declared.config.size.Size.{Size}
use Rattle.tabled_grid.specs.declared.records.axis.Axis.{Axis}
use Rattle.tabled_grid.specs.declared.records.axis.Axis.TheVariants.{Rows, Columns}
use Rattle.tabled_grid.specs.Places.{Places, ReadsThrough}
use Rattle.tabled_grid.specs.Spans.{SpanMap, sized}
use Rattle.tabled_carry.specs.Images.{carried}
use Rattle.tabled_options.specs.Does.{Change}

-- a larger shape, in which the old places stay where they are
abbrev pub widened : ℕ → ℕ → ℕ → ℕ → Places
widened rows columns new_rows new_columns = record { size = sized new_rows new_columns; old_place = λ (p : Position). if nat_lt p.row rows && nat_lt p.col columns then Some p else None }

-- where the second table begins in a first one of r rows and c columns: below it, or right of it
abbrev pub corner_of : Axis → ℕ → ℕ → Position
corner_of Rows rows columns = place rows 0
corner_of Columns rows columns = place 0 columns

-- a first table of r rows and c columns with room for a second one that begins at a corner
abbrev pub joined_places : {A : Type 0} → Position → Grid A → ℕ → ℕ → Places
joined_places corner second rows columns = widened rows columns (max rows (corner.row + second.rows)) (max columns (corner.col + second.columns))

-- the text that is put at a place outside of the first table: from the corner on that of the second one, none where it lacks the cell, and else the default
abbrev pub text_put : Position → Grid (List ℕ) → List ℕ → ℕ → ℕ → Option (List ℕ)
text_put corner second default a b = if nat_le corner.row a && nat_le corner.col b then cell_at second (place (a - corner.row) (b - corner.col)) else Some default

-- the text at a place outside of the first table: the one that is put there, or the empty one
abbrev pub joined_text : Position → Grid (List ℕ) → List ℕ → ℕ → ℕ → List ℕ
joined_text corner second default a b = unwrap_or (text_put corner second default a b) []

-- a grid of texts, each as its bytes
abbrev pub as_texts : Grid (String Global) → Grid (List ℕ)
as_texts = map_grid string_bytes

-- a blank stands at a place
abbrev pub HasBlank : {A : Type 0} → (A → Type 0) → Grid A → Position → Type 0
HasBlank {A} is_blank g p = (cell : A) × is_blank cell × (cell_at g p ≡ Some cell)

-- the cells of the first table stay, and all others have the texts of the second, of the default or none; those without one are blanks
pub record JoinsAt {A : Type 0} (is_blank : A → Type 0) (text_of : A → List ℕ) (corner : Position) (second : Grid (List ℕ)) (default : List ℕ) (old new : Grid A) : Type 0 where
  pub first : ReadsThrough (joined_places corner second old.rows old.columns) old new
  pub others : (a b : ℕ) → a < new.rows → b < new.columns → (old.rows ≤ a) ⊎ (old.columns ≤ b) → cell_at (map_grid text_of new) (place a b) ≡ Some (joined_text corner second default a b)
  pub blanks : (a b : ℕ) → a < new.rows → b < new.columns → (old.rows ≤ a) ⊎ (old.columns ≤ b) → text_put corner second default a b ≡ None → HasBlank is_blank new (place a b)

-- the merged cells of a table of r rows and c columns, once a second one is joined
abbrev pub spans_of_join : Axis → Grid (List ℕ) → ℕ → ℕ → SpanMap → SpanMap
spans_of_join axis second rows columns m = carried (joined_places (corner_of axis rows columns) second rows columns) rows columns m

-- a second table is joined, below the first one or right of it, and the merged cells are carried along
abbrev pub JoinsTables : {A : Type 0} → (A → Type 0) → (A → List ℕ) → Axis → Grid (List ℕ) → List ℕ → Change A SpanMap
JoinsTables is_blank text_of axis second default old cfg new new_cfg = JoinsAt is_blank text_of (corner_of axis old.rows old.columns) second default old new × (new_cfg ≡ spans_of_join axis second old.rows old.columns cfg)

-- a grid of a larger shape, with the old cells where they were and blanks elsewhere
pub record GrowsTo {A : Type 0} (is_blank : A → Type 0) (size : Size) (old new : Grid A) : Type 0 where
  pub even : IsEven new
  pub rows_are : new.rows ≡ size.height
  pub columns_are : new.columns ≡ size.width
  pub kept : (a b : ℕ) → a < old.rows → b < old.columns → cell_at new (place a b) ≡ cell_at old (place a b)
  pub blanks : (a b : ℕ) → a < new.rows → b < new.columns → (old.rows ≤ a) ⊎ (old.columns ≤ b) → HasBlank is_blank new (place a b)

-- the cells outside of r rows and c columns, before a place, row by row, have the texts that are wanted; the others are as they were
pub record FillsTo {A : Type 0} (text_of : A → List ℕ) (want : ℕ → ℕ → Option (List ℕ)) (rows columns i j : ℕ) (old new : Grid A) : Type 0 where
  pub even : IsEven new
  pub rows_are : new.rows ≡ old.rows
  pub columns_are : new.columns ≡ old.columns
  pub kept : (a b : ℕ) → a < rows → b < columns → cell_at new (place a b) ≡ cell_at old (place a b)
  pub unwritten : (a b : ℕ) → want a b ≡ None → cell_at new (place a b) ≡ cell_at old (place a b)
  pub done : (a b : ℕ) → b < new.columns → (rows ≤ a) ⊎ (columns ≤ b) → IsBefore (place a b) (place i j) → (text : List ℕ) → want a b ≡ Some text → cell_at (map_grid text_of new) (place a b) ≡ Some text

-- a second table that is joined: the shape of the first one, where the second begins, its texts, and the text for cells that the first lacks
pub record Joint : Type 0 where
  pub size : Size
  pub corner : Position
  pub second : Grid (List ℕ)
  pub default : List ℕ

-- a second table that is joined below a first one of a shape, or right of it
abbrev pub joint : Axis → Size → Grid (List ℕ) → List ℕ → Joint
joint axis size second default = record { size = size; corner = corner_of axis size.height size.width; second = second; default = default }

-- it begins in the first table or beside it, and a shape has room for both
pub record HasRoom {A : Type 0} (size : Size) (corner : Position) (second : Grid A) (new_size : Size) : Type 0 where
  pub row : corner.row ≤ size.height
  pub col : corner.col ≤ size.width
  pub tall : new_size.height ≡ max size.height (corner.row + second.rows)
  pub wide : new_size.width ≡ max size.width (corner.col + second.columns)

-- the text that it puts at a place
abbrev pub text_of_joint : Joint → ℕ → ℕ → Option (List ℕ)
text_of_joint j = text_put j.corner j.second j.default

-- the texts that it puts at places outside of the first table stand there, and the others are as they were
abbrev pub Fills : {A : Type 0} → (A → List ℕ) → Joint → Grid A → Grid A → Type 0
Fills text_of j old new = FillsTo text_of (text_of_joint j) j.size.height j.size.width old.rows 0 old new

-- it is joined
abbrev pub Joins : {A : Type 0} → (A → Type 0) → (A → List ℕ) → Joint → Grid A → Grid A → Type 0
Joins is_blank text_of j old new = JoinsAt is_blank text_of j.corner j.second j.default old new
