-- What selectors name.
use Rattle.std.specs.Prelude.{ℕ, ◌+◌, ◌-◌, ◌^◌, Bool, false, true, ◌==◌, ◌||◌, if◌then◌else◌, List, [], ◌∷◌, map, nat_lt}
use Rattle.std.specs.List.{filter}
use Rattle.std.specs.declared.ops.Bound.{Bound}
use Rattle.tabled_grid.specs.Bounds.{end_index, first_index}
use Rattle.tabled_grid.specs.Entity.{block, inside}
use Rattle.tabled_grid.specs.declared.config.position.Position.{Position}
use Rattle.tabled_grid.specs.declared.config.entity.Entity.{Entity}
use Rattle.tabled_grid.specs.declared.config.entity.Entity.TheVariants.{Column, Global, Row}

-- the entities that name one row each
abbrev pub rows_of : List ℕ → List Entity
rows_of = map Row

-- the entities that name one column each
abbrev pub columns_of : List ℕ → List Entity
columns_of = map Column

-- the entities, or none where a table has no cells
abbrev pub if_cells : ℕ → ℕ → List Entity → List Entity
if_cells rows columns entities = if (rows == 0) || (columns == 0) then [] else entities

-- how far an index is from the last one, and whether it is past it
pub record FromLast : Type 0 where
  pub offset : ℕ
  pub is_past : Bool

-- so far before the last one
abbrev pub before_last : ℕ → FromLast
before_last n = record { offset = n; is_past = false }

-- so far past the last one
abbrev pub past_last : ℕ → FromLast
past_last n = record { offset = n; is_past = true }

-- the index so far before or past the last of n, or none where there is no such index
abbrev pub index_from_last : FromLast → ℕ → List ℕ
index_from_last from_last count = if count == 0 then [] else (if from_last.is_past then past (count - 1 + from_last.offset) else before (count - 1))
  where
    past : ℕ → List ℕ
    past index = if nat_lt index (2 ^ 64) then index ∷ [] else []

    before : ℕ → List ℕ
    before last = if nat_lt last from_last.offset then [] else (last - from_last.offset) ∷ []

-- the one entity that names all cells
abbrev pub everything : List Entity
everything = Global ∷ []

-- the places in a range of rows and a range of columns, row by row
abbrev pub segment : (Bound ℕ × Bound ℕ) → (Bound ℕ × Bound ℕ) → ℕ → ℕ → List Position
segment down across rows columns = block (first_index down.0) (end_index down.1 rows) (first_index across.0) (end_index across.1 columns)

-- a place is in the first or last row or column of a table
abbrev pub on_edge : ℕ → ℕ → Position → Bool
on_edge rows columns p = (p.row == 0) || (p.row == rows - 1) || (p.col == 0) || (p.col == columns - 1)

-- the places on the edge of a table, row by row
abbrev pub frame : ℕ → ℕ → List Position
frame rows columns = filter (on_edge rows columns) (inside Global rows columns)
