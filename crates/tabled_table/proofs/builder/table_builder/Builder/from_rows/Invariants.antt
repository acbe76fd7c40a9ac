use Rattle.tabled_table.proofs.Common.{◌≡◌, GaveRows, List, from_uneven, ℕ}
use Rattle.tabled_table.proofs.builder.table_builder.Builder.from_rows.Given as goal

abbrev pub invariant-loop-row : goal.invariant-loop-row
invariant-loop-row g l = (rows : List (List (List ℕ))) × GaveRows g.R.IntoIterator g.R.IntoIter.Iterator l.yielded rows × (l.builder ≡ from_uneven rows)
