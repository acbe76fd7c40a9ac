-- The places that an entity names.
use Rattle.std.specs.Prelude.{ℕ, ◌+◌, ◌-◌, Bool, true, ◌==◌, ◌&&◌, List, None, Option, Some, if◌then◌else◌, map, nat_lt}
use Rattle.std.specs.List.{flat_map, filter, range_with_len}
use Rattle.tabled_grid.specs.declared.config.position.Position.{Position}
use Rattle.tabled_grid.specs.declared.config.rectangle.Rectangle.{Rectangle}
use Rattle.tabled_grid.specs.declared.config.entity.Entity.{Entity}
use Rattle.tabled_grid.specs.declared.config.entity.Entity.TheVariants.{Global, Column, Row, Cell}

-- the place in a row and a column
abbrev pub place : ℕ → ℕ → Position
place i j = record { row = i; col = j }

-- two places are in the same row and the same column
abbrev pub same_place : Position → Position → Bool
same_place p q = (p.row == q.row) && (p.col == q.col)

-- the places of row i in the columns c to d, without d
abbrev pub row_places : ℕ → ℕ → ℕ → List Position
row_places c d i = map (place i) (range_with_len c (d - c))

-- the places of the rows a to b and the columns c to d, without b and d, row by row
abbrev pub block : ℕ → ℕ → ℕ → ℕ → List Position
block a b c d = flat_map (row_places c d) (range_with_len a (b - a))

-- the places of a rectangle, row by row
abbrev pub places_in : Rectangle → List Position
places_in e = block e.first.row (e.first.row + e.size.height) e.first.col (e.first.col + e.size.width)

-- an entity names a place
abbrev pub names : Entity → Position → Bool
names Global p = true
names (Column j) p = p.col == j
names (Row i) p = p.row == i
names (Cell i j) p = (p.row == i) && (p.col == j)

-- the places of a table that an entity names, row by row
abbrev pub inside : Entity → ℕ → ℕ → List Position
inside e rows columns = filter (names e) (block 0 rows 0 columns)

-- the row that an entity names, if it is one alone
abbrev pub row_named : Entity → Option ℕ
row_named Global = None
row_named (Column _) = None
row_named (Row i) = Some i
row_named (Cell i _) = Some i

-- the column that an entity names, if it is one alone
abbrev pub column_named : Entity → Option ℕ
column_named Global = None
column_named (Column j) = Some j
column_named (Row _) = None
column_named (Cell _ j) = Some j

-- the first of n lines that are named by an index, or without one, and how many are
abbrev pub lines_named : Option ℕ → ℕ → ℕ × ℕ
lines_named None count = (0, count)
lines_named (Some line) count = if nat_lt line count then (line, 1) else (count, 0)
