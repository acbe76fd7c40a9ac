-- What options keep, and which copies are like them. An option is named by the record of what its trait says of it.
use Rattle.std.specs.Prelude.{List}
use Rattle.std.specs.List.{AllByRecursion}
use Rattle.std.specs.declared.clone.Clone as clone
use Rattle.tabled_grid.specs.Grid.{Grid}
use Rattle.tabled_grid.specs.Spans.{SpanMap}
use Rattle.tabled_grid.specs.declared.config.entity.Entity.{Entity}
use Rattle.tabled_options.specs.Does.{CopiesAlike, OptionKeeps}
use Rattle.tabled_options.specs.Shapes.{FitsAfter, FitsAfterEach}
use Rattle.tabled_options.specs.declared.cell_option.CellOption as on_cells
use Rattle.tabled_options.specs.declared.table_option.TableOption as on_tables

-- what has the property has it after an option on tables, whether the option is done or refused
abbrev pub KeptBy : {S R C D A : Type 0} → (Grid A → C → Type 0) → on_tables.Ghosts S R C D A → S → Type 0
KeptBy holds how option = OptionKeeps holds (how.does option) (how.leaves option)

-- what two options keep is kept by the option that is made of them
abbrev pub KeptByPair : {S T R C D A : Type 0} → (Grid A → C → Type 0) → on_tables.Ghosts S R C D A → on_tables.Ghosts T R C D A → on_tables.Ghosts (S × T) R C D A → S → T → Type 0
KeptByPair holds first second pair a b = KeptBy holds first a → KeptBy holds second b → KeptBy holds pair (a, b)

-- what each of some options keeps is kept by the option that is made of them
abbrev pub KeptByAll : {S T R C D A : Type 0} → (Grid A → C → Type 0) → on_tables.Ghosts S R C D A → on_tables.Ghosts T R C D A → List S → T → Type 0
KeptByAll holds each all parts option = AllByRecursion (KeptBy holds each) parts → KeptBy holds all option

-- what has the property has it after an option on an entity, whether the option is done or refused
abbrev pub KeptOn : {S R C A : Type 0} → (Grid A → C → Type 0) → on_cells.Ghosts S R C A → S → Entity → Type 0
KeptOn holds how option e = OptionKeeps holds (how.does option e) (how.leaves option e)

-- the same on each entity
abbrev pub KeptOnEach : {S R C A : Type 0} → (Grid A → C → Type 0) → on_cells.Ghosts S R C A → S → Type 0
KeptOnEach holds how option = (e : Entity) → KeptOn holds how option e

-- what two options keep on an entity is kept on it by the option that is made of them
abbrev pub KeptOnEachByPair : {S T R C A : Type 0} → (Grid A → C → Type 0) → on_cells.Ghosts S R C A → on_cells.Ghosts T R C A → on_cells.Ghosts (S × T) R C A → S → T → Type 0
KeptOnEachByPair holds first second pair a b = (e : Entity) → KeptOn holds first a e → KeptOn holds second b e → KeptOn holds pair (a, b) e

-- merged cells that fit the table do so after an option on tables, whether it is done or refused
abbrev pub KeepsFitting : {S R D A : Type 0} → on_tables.Ghosts S R SpanMap D A → S → Type 0
KeepsFitting how option = FitsAfter (how.does option) (how.leaves option)

-- the same of an option on cells, on each entity
abbrev pub KeepsFittingOnEach : {S R A : Type 0} → on_cells.Ghosts S R SpanMap A → S → Type 0
KeepsFittingOnEach how option = FitsAfterEach (how.does option) (how.leaves option)

-- each copy of an option on tables is like it
abbrev pub Copied : {S R C D A : Type 0} → clone.Ghosts S → on_tables.Ghosts S R C D A → S → Type 0
Copied copies how option = CopiesAlike copies.is_clone how.is_like option

-- where copies of two options are like them, so are those of the option that is made of them
abbrev pub CopiedAsPair : {S T R C D A : Type 0} → clone.Ghosts S → on_tables.Ghosts S R C D A → clone.Ghosts T → on_tables.Ghosts T R C D A → clone.Ghosts (S × T) → on_tables.Ghosts (S × T) R C D A → S → T → Type 0
CopiedAsPair first_copies first second_copies second pair_copies pair a b = Copied first_copies first a → Copied second_copies second b → Copied pair_copies pair (a, b)

-- where copies of each of some options are like it, so are those of the option that is made of them
abbrev pub CopiedAsAll : {S T R C D A : Type 0} → clone.Ghosts S → on_tables.Ghosts S R C D A → clone.Ghosts T → on_tables.Ghosts T R C D A → List S → T → Type 0
CopiedAsAll each_copies each all_copies all parts option = AllByRecursion (Copied each_copies each) parts → Copied all_copies all option

-- each copy of an option on cells is like it
abbrev pub CellCopied : {S R C A : Type 0} → clone.Ghosts S → on_cells.Ghosts S R C A → S → Type 0
CellCopied copies how option = CopiesAlike copies.is_clone how.is_like option

-- where copies of two options on cells are like them, so are those of the option that is made of them
abbrev pub CellCopiedAsPair : {S T R C A : Type 0} → clone.Ghosts S → on_cells.Ghosts S R C A → clone.Ghosts T → on_cells.Ghosts T R C A → clone.Ghosts (S × T) → on_cells.Ghosts (S × T) R C A → S → T → Type 0
CellCopiedAsPair first_copies first second_copies second pair_copies pair a b = CellCopied first_copies first a → CellCopied second_copies second b → CellCopied pair_copies pair (a, b)
