-- What objects list and locations find. What `IntoIterator` says of what was found, and `Iterator` of what goes over it, are records of their own.
use Rattle.std.specs.Prelude.{◌≡◌, ◌⊎◌, ℕ, ◌<◌, ◌==◌, Bool, false, List, Option, get_or, length}
use Rattle.std.specs.Iterator.{AlwaysYields, Count, IsFinite}
use Rattle.std.specs.List.{filter, list_any}
use Rattle.std.specs.Ordering.{partial_lt}
use Rattle.std.specs.declared.cmp.Ordering.{Ordering}
use Rattle.std.specs.declared.iter.IntoIterator as source
use Rattle.std.specs.declared.iter.Iterator as iterator

-- an iterator may be asked, gives these items in order, and ends
pub record GivesAll {S A : Type 0} (can_next : S → Type 0) (next_gives : S → Option A → S → Type 0) (remaining : S → Count) (iter : S) (items : List A) : Type 0 where
  pub can : can_next iter
  pub ends : IsFinite (remaining iter)
  pub gives : AlwaysYields next_gives (λ (x : A). x) iter items

-- an iterator goes over such a list
abbrev pub Lists : {S A : Type 0} → iterator.Ghosts S A → (List A → Type 0) → S → Type 0
Lists {S} {A} goes such iter = (items : List A) × such items × GivesAll goes.can_next goes.next_gives goes.remaining iter items

-- whatever iterator a value becomes, it goes over these items
abbrev pub GoesOver : {U A S : Type 0} → source.Ghosts U A S → iterator.Ghosts S A → U → List A → Type 0
GoesOver {U} {A} {S} source goes found items = (iter : S) → source.into_iter_gives found iter → GivesAll goes.can_next goes.next_gives goes.remaining iter items

-- of a list all is kept, or just what a test lets in
abbrev pub AllOrThose : {A : Type 0} → (A → Bool) → List A → List A → Type 0
AllOrThose test all kept = (kept ≡ all) ⊎ (kept ≡ filter test all)

-- a value goes over such a list
abbrev pub Finds : {U A S : Type 0} → source.Ghosts U A S → iterator.Ghosts S A → (List A → Type 0) → U → Type 0
Finds {A = A} source goes such found = (items : List A) × such items × GoesOver source goes found items

-- the same, but what isn't below a limit may be left out, all of it
abbrev pub FindsUpTo : {U A S : Type 0} → (A → A → Option Ordering) → A → source.Ghosts U A S → iterator.Ghosts S A → (List A → Type 0) → U → Type 0
FindsUpTo {A = A} cmp limit source goes such found = (items kept : List A) × such items × AllOrThose (λ x. partial_lt cmp x limit) items kept × GoesOver source goes found kept

-- an index is located
abbrev pub is_located : List ℕ → ℕ → Bool
is_located found i = list_any (λ (k : ℕ). k == i) found

-- a mark for each index below a count tells whether it is located
pub record TellsLocated (found : List ℕ) (count : ℕ) (marks : List Bool) : Type 0 where
  pub many : length marks ≡ count
  pub tells : (i : ℕ) → i < count → get_or marks i false ≡ is_located found i
