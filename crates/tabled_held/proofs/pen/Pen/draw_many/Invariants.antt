use Rattle.tabled_held.specs.Pens.{Sends}
use Rattle.std.proofs.Common.{◌*◌, encode_utf8_all, replicate}
use Rattle.tabled_held.proofs.pen.Pen.draw_many.Given as goal

abbrev pub invariant-loop : goal.invariant-loop
invariant-loop g l = Sends g.W.Write.contents l.initial.self l.self (encode_utf8_all (replicate (l.counter * 64) l.fn.c))
