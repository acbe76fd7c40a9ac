-- Values, part by part.
use Rattle.std.specs.Prelude.{◌≡◌, ◌⊎◌, ℕ, List, ◌∷◌, length}
use Rattle.tabled_json.specs.Space.{NotBefore, behind_space}
use Rattle.tabled_json.specs.Grammar.{ItemAt, ItemsAt, ValueAt, closing, opening}
use Rattle.tabled_json.specs.declared.kind.Kind.{Kind}
use Rattle.tabled_json.specs.declared.value.Begun.{Begun}
use Rattle.tabled_json.specs.declared.value.Begun.TheVariants.{Whole, Inside}
use Rattle.tabled_json.specs.declared.value.Ended.{Ended}
use Rattle.tabled_json.specs.declared.value.Ended.TheVariants.{Closed, Next}

-- bytes begin with no bracket that opens something
abbrev pub OpensNothing : List ℕ → Type 0
OpensNothing bytes = (kind : Kind) (inner : List ℕ) → bytes ≡ opening kind ∷ inner → ⊥

-- bytes begin with no value
abbrev pub NoValueAt : List ℕ → Type 0
NoValueAt bytes = (after : List ℕ) → ValueAt bytes after → ⊥

-- bytes begin with no item
abbrev pub NoItemAt : Kind → List ℕ → Type 0
NoItemAt kind bytes = (value : List ℕ) → ItemAt kind bytes value → ⊥

-- what is behind an item: a closing bracket, or other items
abbrev pub EndAt : Kind → List ℕ → List ℕ → Type 0
EndAt kind behind after =
    (behind_space behind ≡ closing kind ∷ after)
    ⊎ ((next : List ℕ) × (item : List ℕ) × (behind_space behind ≡ 44 ∷ next) × ItemAt kind (behind_space next) item × ItemsAt kind item after)

-- neither a closing bracket nor other items are behind an item
abbrev pub NoEndAt : Kind → List ℕ → Type 0
NoEndAt kind behind = (after : List ℕ) → EndAt kind behind after → ⊥

-- bytes open something that isn't closed at once, up to the value of its first item
pub record IsInside (kind : Kind) (bytes value : List ℕ) : Type 0 where
  pub inner : List ℕ
  pub opens : bytes ≡ opening kind ∷ inner
  pub filled : NotBefore (closing kind) (behind_space inner)
  pub item : ItemAt kind (behind_space inner) value

-- a comma is behind an item, and then the value of another one
pub record IsNext (kind : Kind) (behind value : List ℕ) : Type 0 where
  pub next : List ℕ
  pub comma : behind_space behind ≡ 44 ∷ next
  pub item : ItemAt kind (behind_space next) value

-- the front of a value was read: the whole of it, or what opens it, up to the value of its first item
abbrev pub BegunAt : List ℕ → Begun → Type 0
BegunAt bytes (Whole after) = ValueAt bytes after.now
BegunAt bytes (Inside kind value) = IsInside kind bytes value.now

-- what is behind an item was read: a closing bracket, or a comma, up to the value of the next item
abbrev pub EndedAt : Kind → List ℕ → Ended → Type 0
EndedAt kind behind (Closed after) = behind_space behind ≡ closing kind ∷ after.now
EndedAt kind behind (Next value) = IsNext kind behind value.now

-- how many bytes are left behind it
abbrev pub begun_left : Begun → ℕ
begun_left (Whole after) = length after.now
begun_left (Inside kind value) = length value.now

-- how many bytes are left behind it
abbrev pub ended_left : Ended → ℕ
ended_left (Closed after) = length after.now
ended_left (Next value) = length value.now
