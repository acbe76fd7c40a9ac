use Rattle.tabled_settings.proofs.Common.{◌<◌, ◌≤◌, Global, get_or, inside, length, ℕ}
use Rattle.tabled_settings.proofs.duplicate.most_named.Given as goal

abbrev pub invariant-loop-entity : goal.invariant-loop-entity
invariant-loop-entity l = (k : ℕ) → k < l.entity-index → length (inside (get_or l.fn.entities k Global) l.fn.rows l.fn.columns) ≤ l.most
