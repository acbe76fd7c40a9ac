-- How far spans reach from the cells of a block.
use Rattle.tabled_spans.proofs.Common.{◌+◌, ◌-◌, ◌<◌, ◌≤◌, Axis, Columns, In, Position, Rectangle, Rows, across, arith, count_of, line_of, lines_in, ℕ}

-- a block that ends in a table ends in its rows and in its columns
pub block_ends : (axis : Axis) (block : Rectangle) (rows columns : ℕ) → block.first.row + block.size.height ≤ rows → block.first.col + block.size.width ≤ columns → line_of axis block.first + lines_in axis block.size ≤ count_of axis rows columns
block_ends Rows block rows columns bottom right = bottom
block_ends Columns block rows columns bottom right = right

-- the line across of a place in a block, counted from the block's first one
pub line_within : (axis : Axis) (block : Rectangle) (p : Position) → In block p → (line_of (across axis) block.first ≤ line_of (across axis) p) × (line_of (across axis) p - line_of (across axis) block.first < lines_in (across axis) block.size)
line_within Rows block p at = (at.left, omega (arith, at.left, at.right))
line_within Columns block p at = (at.top, omega (arith, at.top, at.bottom))
