use Rattle.tabled_steps.proofs.Common.{[], ◌≡◌, flat, take}
use Rattle.tabled_steps.proofs.naming.name_no_cell.Given as goal

abbrev pub invariant-loop-entity : goal.invariant-loop-entity
invariant-loop-entity l = flat (take l.entity-index l.entities) l.rows l.columns ≡ []
