use Rattle.tabled_settings.proofs.Common.{BringsLines, count_along, indexes_in}
use Rattle.tabled_settings.proofs.lines.keep.Given as goal

abbrev pub invariant-loop-k : goal.invariant-loop-k
invariant-loop-k g l =
    let grid = g.R.GridStore.grid in
    record {
      well : g.R.GridStore.is_well_formed l.records;
      brings : BringsLines l.axis (indexes_in l.range.start l.range.end (count_along l.axis (grid l.fn.records))) l.k (grid l.fn.records) (grid l.records);
    }
