use Rattle.tabled_settings.proofs.Common.{BringsLines}
use Rattle.tabled_settings.proofs.lines.keep_some.Given as goal

abbrev pub invariant-loop-k : goal.invariant-loop-k
invariant-loop-k g l =
    let grid = g.R.GridStore.grid in
    record {
      well : g.R.GridStore.is_well_formed l.records;
      brings : BringsLines l.axis l.kept l.k (grid l.fn.records) (grid l.records);
    }
