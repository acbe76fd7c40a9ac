-- Rows or columns cut into pieces, and pieces glued together.
use Rattle.std.specs.Prelude.{ℕ, ◌+◌, ◌*◌, ◌==◌, ◌&&◌, if◌then◌else◌, Bool, true, false, List, [], ◌∷◌, length, map, nat_lt, slice_index_or}
use Rattle.std.specs.Int.{div_ceil}
use Rattle.std.specs.List.{filter, list_any, range_with_len}
use Rattle.tabled_grid.specs.Bulk.{transposed}
use Rattle.tabled_grid.specs.Grid.{Grid}
use Rattle.tabled_grid.specs.Axis.{across, count_of}
use Rattle.tabled_grid.specs.Pieces.{nth_piece}
use Rattle.tabled_grid.specs.declared.records.axis.Axis.{Axis}
use Rattle.tabled_grid.specs.declared.records.axis.Axis.TheVariants.{Rows, Columns}
use Rattle.tabled_grid.specs.declared.records.pieces.LinePieces.{LinePieces}
use Rattle.tabled_settings.specs.declared.split.Display.{Display}
use Rattle.tabled_settings.specs.declared.split.Display.TheVariants.{Clean, Retain}
use Rattle.tabled_settings.specs.declared.split.Split.{Split}

-- a grid whose rows are the rows, or the columns, of another one
abbrev pub oriented : {A : Type 0} → Axis → Grid A → Grid A
oriented Rows g = g
oriented Columns g = transposed g

-- piece k of a line: its n texts from k * n on, with empty ones after its end
abbrev pub piece : ℕ → ℕ → List (List ℕ) → List (List ℕ)
piece n k texts = map (λ (b : ℕ). slice_index_or texts (k * n + b) []) (range_with_len 0 n)

-- a text that isn't empty
abbrev pub is_text : List ℕ → Bool
is_text [] = false
is_text (c ∷ text) = true

-- a split by which the first piece of each line stays that is cut, and those with a text
abbrev pub clean_split : LinePieces → Split
clean_split pieces = record { lines = pieces.axis; behavior = pieces.order; display = Clean; index = pieces.index }

-- all pieces stay, or the first one of each line and those with a text
abbrev pub stays : Display → ℕ → List (List ℕ) → Bool
stays Retain k texts = true
stays Clean k texts = if k == 0 then true else list_any is_text texts

-- the piece that comes t-th
abbrev pub piece_at : Split → ℕ → List (List (List ℕ)) → ℕ → List (List ℕ)
piece_at s pieces rows t = piece s.index (nth_piece s.behavior (length rows) pieces t).1 (slice_index_or rows (nth_piece s.behavior (length rows) pieces t).0 [])

-- the piece that comes t-th stays
abbrev pub stays_at : Split → ℕ → List (List (List ℕ)) → ℕ → Bool
stays_at s pieces rows t = stays s.display (nth_piece s.behavior (length rows) pieces t).1 (piece_at s pieces rows t)

-- the piece of the rows, or of the columns, of a grid that comes t-th stays
abbrev pub stays_in : Split → ℕ → Grid (List ℕ) → ℕ → Bool
stays_in s pieces g t = stays_at s pieces (oriented s.lines g).cells t

-- which pieces stay, in order
abbrev pub staying : Split → ℕ → List (List (List ℕ)) → List ℕ
staying s pieces rows = filter (stays_at s pieces rows) (range_with_len 0 (length rows * pieces))

-- a grid whose rows are the pieces of the rows of another one
abbrev pub cut_rows : Split → Grid (List ℕ) → Grid (List ℕ)
cut_rows s g = of_rows (map (piece_at s (div_ceil g.columns s.index) g.cells) (staying s (div_ceil g.columns s.index) g.cells))
  where
    of_rows : List (List (List ℕ)) → Grid (List ℕ)
    of_rows rows = record { rows = length rows; columns = s.index; cells = rows }

-- a table of r rows and c columns has lines that are longer than a piece
abbrev pub has_pieces : Split → ℕ → ℕ → Bool
has_pieces s rows columns = nat_lt 0 (count_of s.lines rows columns) && (nat_lt 0 s.index && nat_lt s.index (count_of (across s.lines) rows columns))

-- the grid of the pieces, or as it was where there are none
abbrev pub split : Split → Grid (List ℕ) → Grid (List ℕ)
split s g = if has_pieces s g.rows g.columns then oriented s.lines (cut_rows s (oriented s.lines g)) else g
