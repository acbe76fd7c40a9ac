use Rattle.tabled_grid.proofs.Common.{arith}
use Rattle.tabled_grid.proofs.records.nested_rows.moves.reserve_each.Goals as goal

pub returns-clause-room : goal.returns-clause-room
returns-clause-room g c = λ i d within. let room = c.in_ok-make_room.ensures.room i d within in omega (arith, room)
