use Rattle.tabled_table.proofs.Common.{◌-◌, ◌≤◌, row_texts}
use Rattle.tabled_table.proofs.Cleaned.{GatheredRows}
use Rattle.tabled_table.proofs.builder.columns.gather.Given as goal

abbrev pub invariant-loop-start : goal.invariant-loop-start
invariant-loop-start l = record {
  gathered : GatheredRows l.columns l.kept l.start (row_texts l.fn.rows) (row_texts l.rows);
  within : l.start ≤ l.columns;
}

abbrev pub decreases-loop-start : goal.decreases-loop-start
decreases-loop-start l = l.columns - l.start
