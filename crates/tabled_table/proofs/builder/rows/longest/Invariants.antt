use Rattle.tabled_table.proofs.Common.{◌≡◌, drop, longest, max, row_texts}
use Rattle.tabled_table.proofs.builder.rows.longest.Given as goal

abbrev pub invariant-loop-row : goal.invariant-loop-row
invariant-loop-row l = max (longest (row_texts (drop l.row-index l.rows))) l.most ≡ longest (row_texts l.rows)
