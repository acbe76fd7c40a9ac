use Rattle.tabled_grid.proofs.Common.{◌*◌, ◌<◌, arith, div_ceil}
use Rattle.tabled_grid.proofs.PiecePlaces.{lines_of, starts_inside}
use Rattle.tabled_grid.proofs.records.pieces.LinePiecesRearrange.old_place.Goals as goal

pub overflow_sub-self : goal.overflow_sub-self
overflow_sub-self c =
    let t = c.args.self.now in
    let within = lines_of t.axis t.order t.index t.lines t.width t.some t.some_cells t.narrow c.args.to c.requires in
    let below : c.line_of-target.result < t.lines * div_ceil t.width t.index = omega (arith, c.line_of-target.ensures, within.0) in
    let starts = starts_inside t.axis t.order t.index t.lines t.width t.some t.some_cells t.narrow c.line_of-target.result below in
    omega (arith, rw (← t.counted, ← c.nth_piece-line.ensures.nth) at starts)
