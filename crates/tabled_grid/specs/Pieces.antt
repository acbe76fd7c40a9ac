-- Rows or columns cut into pieces.
use Rattle.std.specs.Prelude.{◌≡◌, ◌<◌, ℕ, ◌+◌, ◌*◌, ◌/◌, ◌%◌, if◌then◌else◌, None, Some, nat_lt}
use Rattle.std.specs.Int.{div_ceil}
use Rattle.tabled_grid.specs.Axis.{across, count_of, line_of, place_in}
use Rattle.tabled_grid.specs.Places.{Places}
use Rattle.tabled_grid.specs.Spans.{sized}
use Rattle.tabled_grid.specs.declared.config.position.Position.{Position}
use Rattle.tabled_grid.specs.declared.records.axis.Axis.{Axis}
use Rattle.tabled_grid.specs.declared.records.piece_order.PieceOrder.{PieceOrder}
use Rattle.tabled_grid.specs.declared.records.piece_order.PieceOrder.TheVariants.{Concat, Zip}

-- how many pieces come before piece k of line i
abbrev pub piece_index : PieceOrder → ℕ → ℕ → ℕ → ℕ → ℕ
piece_index Zip lines pieces i k = i * pieces + k
piece_index Concat lines pieces i k = k * lines + i

-- of r lines of c pieces each, piece k of line i comes t-th
pub record IsPiece (order : PieceOrder) (lines pieces t i k : ℕ) : Type 0 where
  pub line : i < lines
  pub number : k < pieces
  pub before : piece_index order lines pieces i k ≡ t

-- the line and the number of the piece that comes t-th: the pieces of a line, then those of the next one, or the first pieces of all lines, then the second ones
abbrev pub nth_piece : PieceOrder → ℕ → ℕ → ℕ → ℕ × ℕ
nth_piece Zip lines pieces t = (t / pieces, t % pieces)
nth_piece Concat lines pieces t = (t % lines, t / lines)

-- the cell of a line that comes to a cell of the t-th piece
abbrev pub index_in_line : PieceOrder → ℕ → ℕ → ℕ → ℕ → ℕ → ℕ
index_in_line order index lines pieces t b = (nth_piece order lines pieces t).1 * index + b

-- all pieces of r lines of c cells; those after the end of a line come from nowhere
abbrev pub cut_places : Axis → PieceOrder → ℕ → ℕ → ℕ → Places
cut_places axis order index lines width = record {
  size = sized (count_of axis (lines * div_ceil width index) index) (count_of axis index (lines * div_ceil width index));
  old_place = λ (p : Position).
      if nat_lt (index_in_line order index lines (div_ceil width index) (line_of axis p) (line_of (across axis) p)) width
      then Some (place_in axis (nth_piece order lines (div_ceil width index) (line_of axis p)).0 (index_in_line order index lines (div_ceil width index) (line_of axis p) (line_of (across axis) p)))
      else None;
}
