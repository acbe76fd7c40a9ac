-- Steps that name nothing in a table.
use Rattle.std.specs.Prelude.{ℕ, Bool, false, ◌==◌, ◌||◌, List, Some, length}
use Rattle.tabled_grid.specs.Grid.{Grid}
use Rattle.tabled_select.specs.Algebra.{flat}
use Rattle.tabled_steps.specs.Kinds.{Act, ChangeEach, Duplicate, Rearrange, act_of}
use Rattle.tabled_steps.specs.Selected.{Named, named_by}
use Rattle.tabled_steps.specs.declared.select.Select.{Select}
use Rattle.tabled_steps.specs.declared.step.Step.{Step}

-- no cell of a table of texts is named
abbrev pub no_cell_named : Named → Grid (List ℕ) → Bool
no_cell_named named g = length (flat (named g) g.rows g.columns) == 0

-- a selector names none
abbrev pub names_none : Select → Grid (List ℕ) → Bool
names_none select = no_cell_named (named_by select)

-- a selector of an act names no cell of a table, or none of what it takes away, keeps or goes by lies there
abbrev pub act_names_nothing : Act → Grid (List ℕ) → Bool
act_names_nothing (ChangeEach _ select) g = names_none select g
act_names_nothing (Duplicate destination source) g = names_none destination g || names_none source g
act_names_nothing (Rearrange (Some named) _ _) g = no_cell_named named g
act_names_nothing _ g = false

-- that of a step does
abbrev pub names_nothing : Step → Grid (List ℕ) → Bool
names_nothing step = act_names_nothing (act_of step)
