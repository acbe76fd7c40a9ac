-- Changes that leave the shape of a table.
use Rattle.std.specs.Prelude.{◌≡◌}
use Rattle.tabled_grid.specs.Grid.{Grid}
use Rattle.tabled_grid.specs.Fitting.{Fits}
use Rattle.tabled_grid.specs.Spans.{SpanMap}
use Rattle.tabled_grid.specs.declared.config.entity.Entity.{Entity}
use Rattle.tabled_options.specs.Does.{Change, OptionKeeps}

-- a change leaves the numbers of rows and columns, and the configuration
pub record KeepsShape {A C : Type 0} (change : Change A C) : Type 0 where
  pub each : (old : Grid A) (cfg : C) (new : Grid A) (new_cfg : C) → change old cfg new new_cfg → (new.rows ≡ old.rows) × (new.columns ≡ old.columns) × (new_cfg ≡ cfg)

-- merged cells that fit the table do so after an option, whether it is done or refused
abbrev pub FitsAfter : {A : Type 0} → Change A SpanMap → Change A SpanMap → Type 0
FitsAfter does leaves = OptionKeeps (λ g m. Fits m g.rows g.columns) does leaves

-- the same of an option on each entity
abbrev pub FitsAfterEach : {A : Type 0} → (Entity → Change A SpanMap) → (Entity → Change A SpanMap) → Type 0
FitsAfterEach does leaves = (e : Entity) → FitsAfter (does e) (leaves e)

-- merged cells that fit do so after an option that leaves the shape, done and refused
abbrev pub FitsInSameShape : {A : Type 0} → Change A SpanMap → Change A SpanMap → Type 0
FitsInSameShape does leaves = KeepsShape does → KeepsShape leaves → FitsAfter does leaves
