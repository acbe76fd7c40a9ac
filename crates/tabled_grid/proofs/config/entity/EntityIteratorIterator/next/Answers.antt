use Rattle.tabled_grid.proofs.Common.{ap, length, rules}
use Rattle.tabled_grid.proofs.Places.{first_in_row, last_in_row}
use Rattle.tabled_grid.proofs.config.entity.EntityIteratorIterator.next.Goals as goal

pub returns-then-self-2 : goal.returns-then-self-2
returns-then-self-2 c =
    let at = c.self.inside in
    let within = c.self.invariant c.if-self.false in
    let step = last_in_row at.row at.end_row at.first_col at.end_col at.col c.args.self.now c.new-pos.result c.self.view_is c.new-pos.ensures.row c.new-pos.ensures.col c.if-self.false within.0 c.if-self-2.true in
    let shorter = ap length step in
    record { steps = step; goes = search rules }

pub returns-else-self-2 : goal.returns-else-self-2
returns-else-self-2 c =
    let at = c.self.inside in
    let within = c.self.invariant c.if-self.false in
    let step = first_in_row at.row at.end_row at.first_col at.end_col at.col c.args.self.now c.new-pos.result c.self.view_is c.new-pos.ensures.row c.new-pos.ensures.col c.if-self.false within.0 within.1 in
    let shorter = ap length step in
    record { steps = step; goes = search rules }
