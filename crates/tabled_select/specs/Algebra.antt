-- Selections as lists of places, and their combinations.
use Rattle.std.specs.Prelude.{◌≡◌, ℕ, Bool, false, true, ◌↔◌, List, [], ◌∷◌, ◌++◌, map, not}
use Rattle.std.specs.List.{filter, flat_map, list_any}
use Rattle.tabled_grid.specs.Entity.{inside, same_place}
use Rattle.tabled_grid.specs.Grid.{Grid}
use Rattle.tabled_grid.specs.declared.config.position.Position.{Position}
use Rattle.tabled_grid.specs.declared.config.entity.Entity.{Entity}
use Rattle.tabled_grid.specs.declared.config.entity.Entity.TheVariants.{Cell, Global}

-- the places of a table that entities name, of one entity after another
abbrev pub flat : List Entity → ℕ → ℕ → List Position
flat entities rows columns = flat_map (λ e. inside e rows columns) entities

-- the entities that name one place each
abbrev pub cells_of : List Position → List Entity
cells_of = map (λ (p : Position). Cell p.row p.col)

-- a place is one of these
abbrev pub is_among : List Position → Position → Bool
is_among places p = list_any (same_place p) places

-- each place once, where it first stands
abbrev pub firsts : List Position → List Position
firsts [] = []
firsts (p ∷ places) = p ∷ filter (λ q. not (same_place p q)) (firsts places)

-- the places of both, each once
abbrev pub union_of : List Position → List Position → List Position
union_of a b = firsts (a ++ b)

-- the places of the one that aren't in the other
abbrev pub difference_of : List Position → List Position → List Position
difference_of a b = filter (λ p. not (is_among b p)) a

-- the places of the one that are in the other too
abbrev pub intersection_of : List Position → List Position → List Position
intersection_of a b = filter (is_among b) a

-- the places of the one that are in the other too, or else the others
abbrev pub sifted : Bool → List Position → List Position → List Position
sifted true a b = intersection_of a b
sifted false a b = difference_of a b

-- the places of a table that aren't among these
abbrev pub inversion_of : List Position → ℕ → ℕ → List Position
inversion_of a rows columns = difference_of (inside Global rows columns) a

-- the places that the one's entities name and the other's don't
abbrev pub named_without : List Entity → List Entity → ℕ → ℕ → List Position
named_without a b rows columns = difference_of (flat a rows columns) (flat b rows columns)

-- the places that either names, each once
abbrev pub named_by_either : List Entity → List Entity → ℕ → ℕ → List Position
named_by_either a b rows columns = union_of (flat a rows columns) (flat b rows columns)

-- the places that both name
abbrev pub named_by_both : List Entity → List Entity → ℕ → ℕ → List Position
named_by_both a b rows columns = intersection_of (flat a rows columns) (flat b rows columns)

-- the cells of a table that entities don't name
abbrev pub others : List Entity → ℕ → ℕ → List Entity
others a rows columns = cells_of (inversion_of (flat a rows columns) rows columns)

-- entities are listed that name one place each: those that two lists name together
abbrev pub ListsOfTwo : {A : Type 0} → (Grid A → List Entity → Type 0) → (Grid A → List Entity → Type 0) → (List Entity → List Entity → ℕ → ℕ → List Position) → Grid A → List Entity → Type 0
ListsOfTwo first second named g entities = (a b : List Entity) × first g a × second g b × (entities ≡ cells_of (named a b g.rows g.columns))

-- two relations hold of the same lists of entities
abbrev pub ListAlike : {O G : Type 0} → (O → G → List Entity → Type 0) → (O → G → List Entity → Type 0) → O → G → Type 0
ListAlike lists other_lists object g = (entities : List Entity) → lists object g entities ↔ other_lists object g entities
