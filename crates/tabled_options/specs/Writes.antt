-- Texts written to cells.
use Rattle.std.specs.Prelude.{◌≡◌, ◌<◌, ℕ, List, length, map, take}
use Rattle.std.specs.List.{fold}
use Rattle.tabled_grid.specs.Entity.{inside}
use Rattle.tabled_grid.specs.Grid.{Grid, map_grid, with_cell}
use Rattle.tabled_grid.specs.declared.config.entity.Entity.{Entity}
use Rattle.tabled_grid.specs.declared.config.position.Position.{Position}
use Rattle.tabled_options.specs.Does.{Change, SameOr}

-- a place and the text that is written there
pub record Write : Type 0 where
  pub place : Position
  pub text : List ℕ

-- the grid with these texts written, in order
abbrev pub with_writes : List Write → Grid (List ℕ) → Grid (List ℕ)
with_writes writes g = fold (λ written (w : Write). with_cell written w.place w.text) g writes

-- the second grid is the first with the writes before one of these
pub record FirstWrites (writes : List Write) (old new : Grid (List ℕ)) : Type 0 where
  pub count : ℕ
  pub within : count < length writes
  pub is : new ≡ with_writes (take count writes) old

-- writes that the old texts name
abbrev pub Written : {A : Type 0} → (A → List ℕ) → (Grid (List ℕ) → List Write) → Grid A → Grid A → Type 0
Written text_of writes old new = map_grid text_of new ≡ with_writes (writes (map_grid text_of old)) (map_grid text_of old)

-- the same for the writes before one of these
abbrev pub FirstWritten : {A : Type 0} → (A → List ℕ) → (Grid (List ℕ) → List Write) → Grid A → Grid A → Type 0
FirstWritten text_of writes old new = FirstWrites (writes (map_grid text_of old)) (map_grid text_of old) (map_grid text_of new)

-- writes that the old texts name, and the configuration as it was
abbrev pub DoesWrites : {A C : Type 0} → (A → List ℕ) → (Grid (List ℕ) → List Write) → Change A C
DoesWrites text_of writes old cfg new new_cfg = Written text_of writes old new × (new_cfg ≡ cfg)

-- the same for the writes before one of these
abbrev pub DoesFirstWrites : {A C : Type 0} → (A → List ℕ) → (Grid (List ℕ) → List Write) → Change A C
DoesFirstWrites text_of writes old cfg new new_cfg = FirstWritten text_of writes old new × (new_cfg ≡ cfg)

-- nothing changed, or the writes before one of these
abbrev pub SameOrFirstWrites : {A C : Type 0} → (A → List ℕ) → (Grid (List ℕ) → List Write) → Change A C
SameOrFirstWrites text_of writes = SameOr (DoesFirstWrites text_of writes)

-- a text at each of these places
abbrev pub at_each : List ℕ → List Position → List Write
at_each text places = map (λ p. record { place = p; text = text }) places

-- a text at each place inside that an entity names, row by row
abbrev pub text_writes : List ℕ → Entity → Grid (List ℕ) → List Write
text_writes text e g = at_each text (inside e g.rows g.columns)
