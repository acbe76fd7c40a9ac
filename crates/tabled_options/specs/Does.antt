-- What options do to a table, one after another.
use Rattle.std.specs.Prelude.{◌≡◌, ◌⊎◌, ℕ, List, [], ◌∷◌, Some, slice_get, take}
use Rattle.tabled_grid.specs.Grid.{Grid}

-- what relates an old grid and its configuration to new ones
abbrev pub Change : Type 0 → Type 0 → Type 1
Change A C = Grid A → C → Grid A → C → Type 0

-- nothing changed
abbrev pub Same : {A C : Type 0} → Change A C
Same old cfg new new_cfg = (new ≡ old) × (new_cfg ≡ cfg)

-- one change, and then another
abbrev pub Then : {A C : Type 0} → Change A C → Change A C → Change A C
Then {A} {C} first second old cfg new new_cfg = (between : Grid A) × (cfg_between : C) × first old cfg between cfg_between × second between cfg_between new new_cfg

-- the first change was refused, or it was made and the second was refused
abbrev pub ThenLeaves : {A C : Type 0} → Change A C → Change A C → Change A C → Change A C
ThenLeaves does leaves second_leaves old cfg new new_cfg = leaves old cfg new new_cfg ⊎ Then does second_leaves old cfg new new_cfg

-- nothing changed, or what a refused change leaves
abbrev pub SameOr : {A C : Type 0} → Change A C → Change A C
SameOr leaves old cfg new new_cfg = Same old cfg new new_cfg ⊎ leaves old cfg new new_cfg

-- a change for each item, in order
abbrev pub Each : {A C X : Type 0} → (X → Change A C) → List X → Change A C
Each does [] = Same
Each does (x ∷ xs) = Then (does x) (Each does xs)

-- the changes for the items before the one at place k, and what the refused change for that one leaves
pub record EachUntilAt {A C X : Type 0} (does leaves : X → Change A C) (items : List X) (k : ℕ) (old : Grid A) (cfg : C) (new : Grid A) (new_cfg : C) : Type 0 where
  pub item : X
  pub is : slice_get items k ≡ Some item
  pub grid : Grid A
  pub configuration : C
  pub before : Each does (take k items) old cfg grid configuration
  pub left : leaves item grid configuration new new_cfg

-- the same for some place
abbrev pub EachUntil : {A C X : Type 0} → (X → Change A C) → (X → Change A C) → List X → Change A C
EachUntil does leaves items old cfg new new_cfg = (k : ℕ) × EachUntilAt does leaves items k old cfg new new_cfg

-- a change for each item that is listed in the old grid, in order
abbrev pub EachListed : {A C X : Type 0} → (Grid A → List X → Type 0) → (X → Change A C) → Change A C
EachListed {A} {C} {X} lists does old cfg new new_cfg = (items : List X) × lists old items × Each does items old cfg new new_cfg

-- the changes for the items before a listed one, and what the refused change for that one leaves
abbrev pub EachListedUntil : {A C X : Type 0} → (Grid A → List X → Type 0) → (X → Change A C) → (X → Change A C) → Change A C
EachListedUntil {A} {C} {X} lists does leaves old cfg new new_cfg = (items : List X) × lists old items × EachUntil does leaves items old cfg new new_cfg

-- what is left of a change for each listed item by a copy of one option, where the list, a copy or its change is refused
abbrev pub EachListedLeaves : {A C X : Type 0} → (Grid A → List X → Type 0) → (X → Change A C) → (X → Change A C) → Change A C
EachListedLeaves lists does leaves = SameOr (EachListedUntil lists does (λ x. SameOr (leaves x)))

-- the second change is never refused where the first leads
abbrev pub AfterNeverRefused : {A C : Type 0} → Change A C → (Grid A → C → Type 0) → Grid A → C → Type 0
AfterNeverRefused {A} {C} does never old cfg = (new : Grid A) (new_cfg : C) → does old cfg new new_cfg → never new new_cfg

-- no change for an item is refused, where the ones before it lead
abbrev pub NeverRefused : {A C X : Type 0} → (X → Change A C) → (X → Grid A → C → Type 0) → List X → Grid A → C → Type 0
NeverRefused does never [] old cfg = Unit {0}
NeverRefused does never (x ∷ xs) old cfg = never x old cfg × AfterNeverRefused (does x) (NeverRefused does never xs) old cfg

-- a second option may be used where a first may, and does and leaves what the first does and leaves
pub record ActsLike {A C X : Type 0} (can second_can : Type 0) (does second_does leaves second_leaves : X → Change A C) : Type 0 where
  pub can_be_used : can → second_can
  pub does_alike : (x : X) (old : Grid A) (cfg : C) (new : Grid A) (new_cfg : C) → second_does x old cfg new new_cfg → does x old cfg new new_cfg
  pub leaves_alike : (x : X) (old : Grid A) (cfg : C) (new : Grid A) (new_cfg : C) → second_leaves x old cfg new new_cfg → leaves x old cfg new new_cfg

-- the same of options on the whole table
abbrev pub TableActsLike : {A C : Type 0} → Type 0 → Type 0 → Change A C → Change A C → Change A C → Change A C → Type 0
TableActsLike can second_can does second_does leaves second_leaves = ActsLike {X = Unit {0}} can second_can (λ _. does) (λ _. second_does) (λ _. leaves) (λ _. second_leaves)

-- each copy of an option is like it
abbrev pub CopiesAlike : {M : Type 0} → (M → M → Type 0) → (M → M → Type 0) → M → Type 0
CopiesAlike {M} is_clone is_like original = (copy : M) → is_clone original copy → is_like original copy

-- what has the property before a change has it after the change
abbrev pub Keeps : {A C : Type 0} → (Grid A → C → Type 0) → Change A C → Type 0
Keeps {A} {C} holds change = (old : Grid A) (cfg : C) (new : Grid A) (new_cfg : C) → holds old cfg → change old cfg new new_cfg → holds new new_cfg

-- what has the property has it after an option, whether the option is done or refused
pub record OptionKeeps {A C : Type 0} (holds : Grid A → C → Type 0) (does leaves : Change A C) : Type 0 where
  pub done : Keeps holds does
  pub refused : Keeps holds leaves
