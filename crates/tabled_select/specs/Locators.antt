-- What locators find by the texts of a table.
use Rattle.std.specs.Prelude.{◌≡◌, ℕ, Bool, if◌then◌else◌, List, [], ◌∷◌, map, nat_eq}
use Rattle.std.specs.Cmp.Lexicographic.{pointwise}
use Rattle.std.specs.List.{FoldsTo, filter}
use Rattle.std.specs.Option.{unwrap_or}
use Rattle.tabled_grid.specs.Entity.{inside}
use Rattle.tabled_grid.specs.Grid.{Grid, cell_at}
use Rattle.tabled_grid.specs.declared.config.position.Position.{Position}
use Rattle.tabled_grid.specs.declared.config.entity.Entity.{Entity}
use Rattle.tabled_grid.specs.declared.config.entity.Entity.TheVariants.{Global, Row}
use Rattle.tabled_select.specs.Algebra.{flat}
use Rattle.tabled_select.specs.Steps.{Filters}

-- the text at a place of a table
abbrev pub text_at : Grid (List ℕ) → Position → List ℕ
text_at g p = unwrap_or (cell_at g p) []

-- the text at a place is this one
abbrev pub text_is : List ℕ → Grid (List ℕ) → Position → Bool
text_is text g p = pointwise nat_eq (text_at g p) text

-- the places inside that an entity names, with a text, row by row
abbrev pub named_with : Entity → List ℕ → Grid (List ℕ) → List Position
named_with entity text g = filter (text_is text g) (inside entity g.rows g.columns)

-- the places with a text, row by row
abbrev pub places_with : List ℕ → Grid (List ℕ) → List Position
places_with = named_with Global

-- the columns with a text in the first row
abbrev pub columns_with : List ℕ → Grid (List ℕ) → List ℕ
columns_with text g = map (λ (p : Position). p.col) (named_with (Row 0) text g)

-- the places inside that an entity names, with a text to which the answer was yes, each asked for once, row by row
abbrev pub PicksNamed : Entity → (List ℕ → Bool → Type 0) → Grid (List ℕ) → List Position → Type 0
PicksNamed entity answers g picked = Filters (λ p. answers (text_at g p)) (inside entity g.rows g.columns) picked

-- the same of all places
abbrev pub PicksPlaces : (List ℕ → Bool → Type 0) → Grid (List ℕ) → List Position → Type 0
PicksPlaces = PicksNamed Global

-- these are told of the places of such a list, one of each
abbrev pub ToldOf : {K : Type 0} → (Position → K) → (List Position → Type 0) → List K → Type 0
ToldOf told such items = (places : List Position) × such places × (items ≡ map told places)

-- one place is held, and then the next one, if the answer to its text and to the held one was yes
abbrev pub HoldsNext : (List ℕ → List ℕ → Bool → Type 0) → Grid (List ℕ) → Position → Position → Position → Type 0
HoldsNext answers g held p next = (yes : Bool) × answers (text_at g p) (text_at g held) yes × (next ≡ (if yes then p else held))

-- of these places the one that is held last, where the first is held first
abbrev pub HeldLast : (List ℕ → List ℕ → Bool → Type 0) → Grid (List ℕ) → List Position → List Position → Type 0
HeldLast answers g [] last = last ≡ []
HeldLast answers g (p ∷ places) last = (held : Position) × FoldsTo (HoldsNext answers g) p places held × (last ≡ held ∷ [])

-- the same of the places that entities name
abbrev pub NamedHeldLast : (List ℕ → List ℕ → Bool → Type 0) → Grid (List ℕ) → List Entity → List Position → Type 0
NamedHeldLast answers g entities = HeldLast answers g (flat entities g.rows g.columns)
