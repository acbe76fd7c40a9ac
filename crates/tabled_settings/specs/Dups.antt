-- Texts of some cells written to others.
use Rattle.std.specs.Prelude.{◌≡◌, ◌%◌, ◌+◌, ℕ, List, [], ◌∷◌, ◌++◌, String, get_or, length, map, string_bytes, take}
use Rattle.std.specs.Global.{Global}
use Rattle.std.specs.List.{flat_map}
use Rattle.tabled_grid.specs.Entity.{inside}
use Rattle.tabled_grid.specs.Grid.{Grid}
use Rattle.tabled_grid.specs.declared.config.entity.Entity.{Entity}
use Rattle.tabled_grid.specs.declared.config.position.Position.{Position}
use Rattle.tabled_options.specs.Does.{Change, SameOr}
use Rattle.tabled_select.specs.Algebra.{flat}
use Rattle.tabled_select.specs.Locators.{text_at}
use Rattle.tabled_options.specs.Writes.{DoesFirstWrites, DoesWrites, Write}

-- texts for places, the i-th one for the first of them, and after the last one the first again
abbrev pub round_from : ℕ → List (List ℕ) → List Position → List Write
round_from i texts [] = []
round_from i texts (p ∷ places) = record { place = p; text = get_or texts (i % length texts) [] } ∷ round_from (i + 1) texts places

-- texts for what entities name, for each entity from the first text on
abbrev pub round_writes : List (List ℕ) → ℕ → ℕ → List Entity → List Write
round_writes texts rows columns entities = flat_map (λ e. round_from 0 texts (inside e rows columns)) entities

-- texts for the cells that an entity names in a grid, one after another
abbrev pub texts_to : Entity → List (String Global) → Grid (List ℕ) → List Write
texts_to e texts g = round_from 0 (map string_bytes texts) (inside e g.rows g.columns)

-- texts for the cells that entities name in a grid, for each entity from the first text on
abbrev pub texts_to_each : List Entity → List (String Global) → Grid (List ℕ) → List Write
texts_to_each entities texts g = round_writes (map string_bytes texts) g.rows g.columns entities

-- texts for what entities name, for each from the first text on, and no writes where there are no texts
abbrev pub rounds : List (List ℕ) → ℕ → ℕ → List Entity → List Write
rounds [] rows columns entities = []
rounds (text ∷ texts) rows columns entities = round_writes (text ∷ texts) rows columns entities

-- the texts in a grid of what an entity names
abbrev pub texts_at : Entity → Grid (List ℕ) → List (List ℕ)
texts_at e g = map (text_at g) (inside e g.rows g.columns)

-- the texts in a grid of what entities name
abbrev pub source_texts : Grid (List ℕ) → List Entity → List (List ℕ)
source_texts g sources = map (text_at g) (flat sources g.rows g.columns)

-- texts with others after them, as many of all these as are wanted
abbrev pub AppendsUpTo : ℕ → List (String Global) → List (List ℕ) → List (String Global) → Type 0
AppendsUpTo many old more new = map string_bytes new ≡ take many (map string_bytes old ++ more)

-- the writes of the texts of sources to what targets name
abbrev pub dup_writes : List Entity → List Entity → Grid (List ℕ) → List Write
dup_writes sources targets g = rounds (source_texts g sources) g.rows g.columns targets

-- the texts of a source, written to what a destination lists in the old grid
abbrev pub Duplicates : {A C : Type 0} → (A → List ℕ) → (Grid A → List Entity → Type 0) → (Grid A → List Entity → Type 0) → Change A C
Duplicates text_of destination source old cfg new new_cfg = (sources : List Entity) × (targets : List Entity) × source old sources × destination old targets × DoesWrites text_of (dup_writes sources targets) old cfg new new_cfg

-- no change, or the first of these writes
abbrev pub DuplicatesFirst : {A C : Type 0} → (A → List ℕ) → (Grid A → List Entity → Type 0) → (Grid A → List Entity → Type 0) → Change A C
DuplicatesFirst text_of destination source = SameOr (λ old cfg new new_cfg. (sources : List Entity) × (targets : List Entity) × source old sources × destination old targets × DoesFirstWrites text_of (dup_writes sources targets) old cfg new new_cfg)
