use Rattle.std.proofs.Common.{◌≡◌, encode_utf8_all, replicate}
use Rattle.tabled_held.proofs.run.run_of.Given as goal

abbrev pub invariant-loop : goal.invariant-loop
invariant-loop l = l.run.items ≡ encode_utf8_all (replicate l.counter l.fn.c)
