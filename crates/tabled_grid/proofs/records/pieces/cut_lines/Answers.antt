use Rattle.tabled_grid.proofs.Common.{◌*◌, ◌<◌, ◌≡◌, Axis, Columns, Rows, across, arith, count_along, count_of, ℕ}
use Rattle.tabled_grid.proofs.PiecePlaces.{pieces_take_once, some_lines}
use Rattle.tabled_grid.proofs.records.pieces.cut_lines.Goals as goal

-- a shape with lines and with cells in each has rows
has_rows : (axis : Axis) (lines cells : ℕ) → 0 < lines → 0 < cells → 0 < count_of axis lines cells
has_rows Rows lines cells some some_cells = some
has_rows Columns lines cells some some_cells = some_cells

pub gather-requires-clause-some : goal.gather-requires-clause-some
gather-requires-clause-some g c =
    let t = c.in_ok-pieces.pieces in
    let many : 0 < c.count-lines.result * t.pieces = rw (← c.in_ok-pieces.ensures.lines, t.counted) (some_lines t.axis t.order t.index t.lines t.width t.some t.some_cells t.narrow) in
    omega (arith, has_rows c.args.axis _ _ many c.requires.index, c.count_of-rows.ensures)

pub gather-requires-clause-once : goal.gather-requires-clause-once
gather-requires-clause-once g c =
    let is = c.in_ok-pieces.ensures in
    let grid = g.R.GridStore.grid c.args.records.now in
    let width : c.count-width.result ≡ count_along (across c.args.axis) grid = rw c.across.ensures at c.count-width.ensures.count in
    rw (is.axis, is.order, is.index, is.lines, is.width) (pieces_take_once c.args.axis c.args.order c.args.index c.count-lines.result c.count-width.result (omega (arith, c.count-lines.ensures.count, c.requires.some)) c.requires.index (omega (arith, width, c.requires.narrow)) grid c.count-lines.ensures.count width)
