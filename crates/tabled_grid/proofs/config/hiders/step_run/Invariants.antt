use Rattle.tabled_grid.proofs.Common.{map}
use Rattle.tabled_grid.proofs.Stepping.{RunTo}
use Rattle.tabled_grid.proofs.config.hiders.step_run.Given as goal

abbrev pub invariant-loop-j : goal.invariant-loop-j
invariant-loop-j g l = RunTo (map g.N.Count.value l.fn.hiders) (map g.N.Count.value l.hiders) l.i l.fn.run l.j (g.N.Count.value l.step) g.N.Count.limit l.fn.size
