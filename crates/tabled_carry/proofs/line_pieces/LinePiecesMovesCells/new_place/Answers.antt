use Rattle.std.specs.Int.{div_ceil}
use Rattle.std.specs.Prelude.{◌%◌, ◌/◌}
use Rattle.tabled_carry.proofs.Common.{◌∙◌, ◌≡◌, Some, ap, arith, line_of, sym}
use Rattle.tabled_grid.proofs.PiecePlaces.{goes_once, stood_in_line}
use Rattle.tabled_grid.specs.Axis.{across, place_in}
use Rattle.tabled_grid.specs.Pieces.{piece_index}
use Rattle.tabled_carry.proofs.line_pieces.LinePiecesMovesCells.new_place.Goals as goal

pub returns-then-line-self-clause-finds : goal.returns-then-line-self-clause-finds
returns-then-line-self-clause-finds c = λ p takes.
    let t = c.args.self.now in
    let inside = stood_in_line t.axis t.order t.index t.lines t.width t.some t.some_cells t.narrow p c.args.pos (record { row = takes.row; col = takes.col }) takes.from in
    let line = c.line_of-line.ensures in
    let cell = rw c.across.ensures at c.line_of-cell.ensures in
    elim c.then-line-self.branch [
      | goal.then-line-self-via-then-line-self w ↦ absurd (omega (arith, w.if-line-self.true, line, inside.0))
      | goal.then-line-self-via-else-line-self+then-cell-self w ↦ absurd (omega (arith, w.if-cell-self.true, cell, inside.1))
    ]

-- the cell goes to the piece of its number
named : (c : goal.After-place) → c.place.result ≡ place_in c.args.self.now.axis (piece_index c.args.self.now.order c.args.self.now.lines (div_ceil c.args.self.now.width c.args.self.now.index) (line_of c.args.self.now.axis c.args.pos) (line_of (across c.args.self.now.axis) c.args.pos / c.args.self.now.index)) (line_of (across c.args.self.now.axis) c.args.pos % c.args.self.now.index)
named c =
    let cell = rw c.across.ensures at c.line_of-cell.ensures in
    rw (c.piece_index-nth.ensures.index, c.args.self.now.counted, c.line_of-line.ensures, cell) at c.place.ensures

pub returns-clause-takes : goal.returns-clause-takes
returns-clause-takes c =
    let t = c.args.self.now in
    let cell = rw c.across.ensures at c.line_of-cell.ensures in
    let goes = goes_once t.axis t.order t.index t.lines t.width t.some t.some_cells t.narrow c.args.pos (omega (arith, c.if-line-self.false, c.line_of-line.ensures)) (omega (arith, c.if-cell-self.false, cell)) in
    rw (named c) (record { row = goes.0.row; col = goes.0.col; from = goes.1 })

pub returns-clause-finds : goal.returns-clause-finds
returns-clause-finds c = λ p takes.
    let t = c.args.self.now in
    let cell = rw c.across.ensures at c.line_of-cell.ensures in
    let goes = goes_once t.axis t.order t.index t.lines t.width t.some t.some_cells t.narrow c.args.pos (omega (arith, c.if-line-self.false, c.line_of-line.ensures)) (omega (arith, c.if-cell-self.false, cell)) in
    ap Some (named c ∙ sym (goes.2 p (record { row = takes.row; col = takes.col }) takes.from))
