-- The room of a merged cell that fits lies in the table's columns.
use Rattle.std.proofs.Common.{ap, arith}
use Rattle.tabled_grid.specs.declared.config.size.Size.{Size}
use Rattle.tabled_script.proofs.Rooms.{ends-inside}
use Rattle.tabled_script.proofs.text_rooms.Columns.room.Goals as goal

pub room-requires-clause-end : goal.room-requires-clause-end
room-requires-clause-end c =
    let ends = ends-inside _ c.requires.0 c.requires.1 c.requires.2.fits c.args.pos c.requires.4 in
    let each = c.requires.2.each (omega (arith, c.requires.3)) in
    let wide = ap (λ (s : Size). s.width) c.size-size.ensures.value in
    omega (arith, ends, each, wide)
