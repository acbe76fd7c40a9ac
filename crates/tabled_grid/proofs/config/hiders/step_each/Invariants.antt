use Rattle.tabled_grid.proofs.Common.{map}
use Rattle.tabled_grid.proofs.Stepping.{EachTo}
use Rattle.tabled_grid.proofs.config.hiders.step_each.Given as goal

abbrev pub invariant-loop-i : goal.invariant-loop-i
invariant-loop-i g l = EachTo (map g.N.Count.value l.fn.hiders) (map g.N.Count.value l.hiders) l.fn.block l.fn.anchor l.i (g.N.Count.value l.step) g.N.Count.limit
