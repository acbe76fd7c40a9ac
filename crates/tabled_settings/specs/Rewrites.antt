-- Texts written to cells in place of the old ones.
use Rattle.std.specs.Prelude.{◌≡◌, ◌<◌, ℕ, List, length, map, take}
use Rattle.std.specs.List.{FoldsTo}
use Rattle.tabled_grid.specs.Entity.{inside}
use Rattle.tabled_grid.specs.Grid.{Grid, map_grid}
use Rattle.tabled_grid.specs.declared.config.entity.Entity.{Entity}
use Rattle.tabled_grid.specs.declared.config.position.Position.{Position}
use Rattle.tabled_options.specs.Does.{Change}
use Rattle.tabled_options.specs.Writes.{Write, with_writes}
use Rattle.tabled_select.specs.Locators.{text_at}

-- what says how something, asked for a place and its text, answers another text and becomes something else
abbrev pub Asking : Type 0 → Type 1
Asking S = S → Position → List ℕ → List ℕ → S → Type 0

-- asked for one place after another with its text in this grid, it answers what is written there
abbrev pub AnswersInTurn : {S : Type 0} → Asking S → S → Grid (List ℕ) → List Write → S → Type 0
AnswersInTurn asks first g writes last = FoldsTo (λ s (w : Write) t. asks s w.place (text_at g w.place) w.text t) first writes last

-- the answers to these places and their old texts, written there
pub record RewritesAt {S : Type 0} (asks : Asking S) (first : S) (places : List Position) (old new : Grid (List ℕ)) : Type 0 where
  pub writes : List Write
  pub last : S
  pub at : map (λ (w : Write). w.place) writes ≡ places
  pub answers : AnswersInTurn asks first old writes last
  pub is : new ≡ with_writes writes old

-- the answers to the places before one of these and to their old texts, written there
pub record RewritesUntil {S : Type 0} (asks : Asking S) (first : S) (places : List Position) (old new : Grid (List ℕ)) : Type 0 where
  pub count : ℕ
  pub within : count < length places
  pub before : RewritesAt asks first (take count places) old new

-- the answers to the cells inside that an entity names, row by row
abbrev pub Rewritten : {A S : Type 0} → (A → List ℕ) → Asking S → S → Entity → Grid A → Grid A → Type 0
Rewritten text_of asks first e old new = RewritesAt asks first (inside e old.rows old.columns) (map_grid text_of old) (map_grid text_of new)

-- the answers to the cells before one of those inside that an entity names
abbrev pub FirstRewritten : {A S : Type 0} → (A → List ℕ) → Asking S → S → Entity → Grid A → Grid A → Type 0
FirstRewritten text_of asks first e old new = RewritesUntil asks first (inside e old.rows old.columns) (map_grid text_of old) (map_grid text_of new)

-- the answers to the cells that an entity names, and the configuration as it was
abbrev pub Rewrites : {A C S : Type 0} → (A → List ℕ) → Asking S → S → Entity → Change A C
Rewrites text_of asks first e old cfg new new_cfg = Rewritten text_of asks first e old new × (new_cfg ≡ cfg)

-- the answers to the cells before one of these, and the configuration as it was
abbrev pub RewritesBefore : {A C S : Type 0} → (A → List ℕ) → Asking S → S → Entity → Change A C
RewritesBefore text_of asks first e old cfg new new_cfg = FirstRewritten text_of asks first e old new × (new_cfg ≡ cfg)
