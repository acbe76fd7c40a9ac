use Rattle.tabled_json.proofs.Common.{◌<◌, ◌≤◌, ℕ, length}
use Rattle.tabled_texts.specs.Texts.{row_at}
use Rattle.tabled_json.proofs.keyed.check_rows.Given as goal

abbrev pub invariant-loop-i : goal.invariant-loop-i
invariant-loop-i g l = (k : ℕ) → k < l.i → length (row_at (g.R.Rows.texts l.rows) k) ≤ length (row_at (g.R.Rows.texts l.rows) 0)
