use Rattle.tabled_table.proofs.Common.{◌≡◌}
use Rattle.tabled_table.proofs.builder.rows.collect.Given as goal

abbrev pub invariant-loop-text : goal.invariant-loop-text
invariant-loop-text g l = l.row.items ≡ l.yielded
