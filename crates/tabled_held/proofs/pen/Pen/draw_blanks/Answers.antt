use Rattle.std.proofs.Common.{lit<}
use Rattle.tabled_held.proofs.Pens.{draws-repeat}
use Rattle.tabled_held.proofs.pen.Pen.draw_blanks.Goals as goal

pub returns : goal.returns
returns g c = draws-repeat c.args.count 32 (lit< tt) c.send_again.ensures
