-- What hints of changes combine to.
use Rattle.std.specs.Prelude.{◌≡◌, Bool, true, false, ◌==◌, ◌&&◌, if◌then◌else◌, Option, Some, None}
use Rattle.tabled_grid.specs.Entity.{names}
use Rattle.tabled_grid.specs.declared.config.entity.Entity.{Entity}
use Rattle.tabled_grid.specs.declared.config.entity.Entity.TheVariants.{Global, Column, Row, Cell}
use Rattle.tabled_grid.specs.declared.config.position.Position.{Position}

-- each place that the second entity names, the first names too
abbrev pub Covers : Entity → Entity → Type 0
Covers a b = (p : Position) → names b p ≡ true → names a p ≡ true

-- an entity covers both of two: it is the one that covers the other, or all cells where neither does
pub record IsCombined (a b e : Entity) : Type 0 where
  pub covers_first : Covers e a
  pub covers_second : Covers e b
  pub is_first : Covers a b → e ≡ a
  pub is_second : Covers b a → e ≡ b
  pub is_all : (Covers a b → ⊥) → (Covers b a → ⊥) → e ≡ Global

-- all cells that the second entity names, the first names too
abbrev pub names_all_of : Entity → Entity → Bool
names_all_of Global b = true
names_all_of (Column j) (Column l) = j == l
names_all_of (Column j) (Cell k l) = j == l
names_all_of (Row i) (Row k) = i == k
names_all_of (Row i) (Cell k l) = i == k
names_all_of (Cell i j) (Cell k l) = (i == k) && (j == l)
names_all_of a b = false

-- the one of two entities that covers the other, or all cells
abbrev pub combined : Entity → Entity → Entity
combined a b = if names_all_of a b then a else (if names_all_of b a then b else Global)

-- the hints that are there, combined
abbrev pub combined_hint : Option Entity → Option Entity → Option Entity
combined_hint None b = b
combined_hint a None = a
combined_hint (Some a) (Some b) = Some (combined a b)
