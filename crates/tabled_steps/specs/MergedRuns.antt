-- The runs of equal neighbours among the cells that an entity names in a table, one after another.
use Rattle.std.specs.Prelude.{ℕ, zero, suc, ◌+◌, ◌-◌, ◌&&◌, if◌then◌else◌, Bool, List, [], ◌∷◌, nat_lt, not}
use Rattle.std.specs.List.{flat_map}
use Rattle.std.specs.Option.{option_eq}
use Rattle.std.specs.Str.{bytes_eq}
use Rattle.tabled_grid.specs.Entity.{block, names, place}
use Rattle.tabled_grid.specs.Grid.{Grid, cell_at}
use Rattle.tabled_grid.specs.Spans.{SpanMap, rectangle}
use Rattle.tabled_grid.specs.declared.config.entity.Entity.{Entity}
use Rattle.tabled_grid.specs.declared.config.position.Position.{Position}
use Rattle.tabled_grid.specs.declared.config.rectangle.Rectangle.{Rectangle}
use Rattle.tabled_grid.specs.declared.records.axis.Axis.{Axis}
use Rattle.tabled_grid.specs.declared.records.axis.Axis.TheVariants.{Rows, Columns}
use Rattle.tabled_spans.specs.Runs.{further, is_free, size_of_run}

-- a cell of the table that an entity names
abbrev pub is_named : Entity → Grid (List ℕ) → Position → Bool
is_named e g p = names e p && (nat_lt p.row g.rows && nat_lt p.col g.columns)

-- a cell and the next one along an axis are named by an entity, are visible and no anchors, and have equal texts
abbrev pub joins : Axis → Entity → Grid (List ℕ) → SpanMap → Position → Bool
joins axis e g m p = (is_named e g p && is_named e g (further axis 1 p)) && ((is_free m p && is_free m (further axis 1 p)) && option_eq bytes_eq (cell_at g p) (cell_at g (further axis 1 p)))

-- the cell before a place joins it
abbrev pub is_joined : Axis → Entity → Grid (List ℕ) → SpanMap → Position → Bool
is_joined Rows e g m p = nat_lt 0 p.row && joins Rows e g m (place (p.row - 1) p.col)
is_joined Columns e g m p = nat_lt 0 p.col && joins Columns e g m (place p.row (p.col - 1))

-- how many cells from a place on are equal neighbours, of n at most
abbrev pub run_from : ℕ → Axis → Entity → Grid (List ℕ) → SpanMap → Position → ℕ
run_from zero axis e g m p = 1
run_from (suc most) axis e g m p = if joins axis e g m p then suc (run_from most axis e g m (further axis 1 p)) else 1

-- the anchor and the size of the run that begins at a place, if one does
abbrev pub run_at : Axis → Entity → Grid (List ℕ) → SpanMap → Position → List Rectangle
run_at axis e g m p = if joins axis e g m p && not (is_joined axis e g m p) then rectangle p (size_of_run axis (run_from (g.rows + g.columns) axis e g m p)) ∷ [] else []

-- the anchors and the sizes of all runs among the cells of an entity, row by row
abbrev pub runs : Axis → Entity → Grid (List ℕ) → SpanMap → List Rectangle
runs axis e g m = flat_map (run_at axis e g m) (block 0 g.rows 0 g.columns)
