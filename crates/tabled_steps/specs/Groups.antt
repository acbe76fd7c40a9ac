-- The entities that a selector names in a table, by the places inside that each names.
use Rattle.std.specs.Prelude.{◌≡◌, ◌≤◌, ◌-◌, ◌*◌, ◌^◌, ◌==◌, ◌⊎◌, if◌then◌else◌, ℕ, List, [], ◌∷◌, ◌++◌, drop, map, max, replicate}
use Rattle.std.specs.List.{AllByRecursion, flat_map, range_with_len}
use Rattle.std.specs.Option.{option_to_list}
use Rattle.std.specs.Vec.Iter.{into_iter_items}
use Rattle.tabled_grid.specs.Entity.{block, inside, row_places}
use Rattle.tabled_grid.specs.declared.config.entity.Entity.{Entity}
use Rattle.tabled_grid.specs.declared.config.entity.Entity.TheVariants.{Cell}
use Rattle.tabled_grid.specs.declared.config.position.Position.{Position}
use Rattle.tabled_grid.specs.Grid.{Grid, map_grid}
use Rattle.tabled_grid.specs.Spans.{SpanMap}
use Rattle.tabled_options.specs.Does.{Change}
use Rattle.tabled_select.specs.Algebra.{cells_of}
use Rattle.tabled_select.specs.Steps.{every}
use Rattle.tabled_steps.specs.declared.groups.Groups.{Groups}
use Rattle.tabled_steps.specs.declared.groups.Groups.TheVariants.{Each, Counted}
use Rattle.tabled_steps.specs.declared.groups.Group.{Group}
use Rattle.tabled_steps.specs.declared.select.Select.{Select}
use Rattle.tabled_steps.specs.declared.representatives.Entities.{Entities}
use Rattle.tabled_steps.specs.declared.representatives.Entities.TheVariants as from
use Rattle.tabled_steps.specs.Selected.{selected}

-- the places of a table that entities name, of each
abbrev pub named_places : ℕ → ℕ → List Entity → List (List Position)
named_places rows columns = map (λ (e : Entity). inside e rows columns)

-- the places of a table that the entities in groups name, of each
abbrev pub unrolled : ℕ → ℕ → List Group → List (List Position)
unrolled rows columns = flat_map (λ (r : Group). replicate r.count (inside r.entity rows columns))

-- a group is one entity, or some that have no cell in a table
abbrev pub IsGroup : ℕ → ℕ → Group → Type 0
IsGroup rows columns r = (r.count ≡ 1) ⊎ ((1 ≤ r.count) × (inside r.entity rows columns ≡ []))

-- these are groups of entities, in order
pub record AreGroups (rows columns : ℕ) (entities : List Entity) (groups : List Group) : Type 0 where
  pub same : named_places rows columns entities ≡ unrolled rows columns groups
  pub each : AllByRecursion (IsGroup rows columns) groups

-- the group of one entity
abbrev pub once : Entity → Group
once e = record { entity = e; count = 1 }

-- the entities that stand for groups
abbrev pub representatives_of : List Group → List Entity
representatives_of = map (λ (r : Group). r.entity)

-- what a selector names, as groups
abbrev pub groups_of : Groups → List Group
groups_of (Each entities) = map once entities.items
groups_of (Counted groups) = groups.items

-- groups of entities, in a table
abbrev pub AreGroupedIn : {A : Type 0} → Grid A → List Entity → Groups → Type 0
AreGroupedIn g entities groups = AreGroups g.rows g.columns entities (groups_of groups)

-- entities that stand for those that a selector names in a table: one for each group of them
abbrev pub AreRepresentatives : {A : Type 0} → (A → List ℕ) → Select → Grid A → List Entity → Type 0
AreRepresentatives text_of select g representatives = (groups : List Group) × AreGroups g.rows g.columns (selected (map_grid text_of g) select) groups × (representatives ≡ representatives_of groups)

-- what is done and left on an entity depends on the places alone that it names, the shape stays, and to do it
-- on one that names none once more changes nothing
pub record IsLocal {A : Type 0} (does leaves : Entity → Change A SpanMap) : Type 0 where
  pub rows : (e : Entity) (old : Grid A) (cfg : SpanMap) (new : Grid A) (new_cfg : SpanMap) → does e old cfg new new_cfg → new.rows ≡ old.rows
  pub columns : (e : Entity) (old : Grid A) (cfg : SpanMap) (new : Grid A) (new_cfg : SpanMap) → does e old cfg new new_cfg → new.columns ≡ old.columns
  pub alike : (e f : Entity) (old : Grid A) (cfg : SpanMap) (new : Grid A) (new_cfg : SpanMap) → inside e old.rows old.columns ≡ inside f old.rows old.columns → does f old cfg new new_cfg → does e old cfg new new_cfg
  pub again : (e : Entity) (old : Grid A) (cfg : SpanMap) (new : Grid A) (new_cfg : SpanMap) → inside e old.rows old.columns ≡ [] → does e old cfg new new_cfg → does e new new_cfg new new_cfg
  pub left_alike : (e f : Entity) (old : Grid A) (cfg : SpanMap) (new : Grid A) (new_cfg : SpanMap) → inside e old.rows old.columns ≡ inside f old.rows old.columns → leaves f old cfg new new_cfg → leaves e old cfg new new_cfg

-- the entities that are left to go over
abbrev pub entities_left : Entities → List Entity
entities_left (from.One entity) = option_to_list entity
entities_left (from.Each entities) = into_iter_items entities

-- groups of all but the first n of the entities in others
abbrev pub Skips : ℕ → List Group → List Group → Type 0
Skips n groups left = (rows columns : ℕ) (entities : List Entity) → AreGroups rows columns entities groups → AreGroups rows columns (drop n entities) left

-- groups of every n-th of them
abbrev pub StepsBy : ℕ → List Group → List Group → Type 0
StepsBy n groups left = (rows columns : ℕ) (entities : List Entity) → AreGroups rows columns entities groups → AreGroups rows columns (every n entities) left

-- a group of n entities past the last row and column of any table, if there are some
abbrev pub groups_outside : ℕ → List Group
groups_outside count = if count == 0 then [] else record { entity = Cell (2 ^ 64 - 1) (2 ^ 64 - 1); count = count } ∷ []

-- the cells of row i in a range of columns, of which those from a column on are outside
abbrev pub row_groups : ℕ × ℕ → ℕ → ℕ → List Group
row_groups columns within i = map once (cells_of (row_places columns.0 within i)) ++ groups_outside (columns.1 - within)

-- the cells of a range of rows and of one of columns, of which those from a row on and from a column on are outside
abbrev pub segment_groups : ℕ × ℕ → ℕ → ℕ × ℕ → ℕ → List Group
segment_groups rows rows_within columns within = flat_map (row_groups columns within) (range_with_len rows.0 (rows_within - rows.0)) ++ groups_outside ((rows.1 - max rows.0 rows_within) * (columns.1 - columns.0))

-- the cells of a range of rows and of one of columns
abbrev pub segment_cells : ℕ × ℕ → ℕ × ℕ → List Entity
segment_cells rows columns = cells_of (block rows.0 rows.1 columns.0 columns.1)
