-- What iterators give, whose items stand for what a contract sees.
use Rattle.std.specs.Prelude.{◌≡◌, false, List, [], ◌∷◌, Option, Some, None}
use Rattle.std.specs.Iterator.{Count, IsFinite, count_unless}
use Rattle.std.specs.Iterator.Adapters.{fuse_done, fuse_source, fuse_steps}
use Rattle.std.specs.declared.iter.Fuse.{Fuse}

-- every run of calls gives items that stand for these, one by one, and then `None`
abbrev pub GivesEach : {S A B : Type 0} → (S → Option A → S → Type 0) → (A → B → Type 0) → S → List B → Type 0
GivesEach {S} {A} next_gives stands_for iter [] = (item : A) (left : S) → next_gives iter (Some item) left → ⊥
GivesEach {S} {A} next_gives stands_for iter (x ∷ xs) = ((left : S) → next_gives iter None left → ⊥) × ((item : A) (left : S) → next_gives iter (Some item) left → stands_for item x × GivesEach next_gives stands_for left xs)

-- an iterator may be asked, gives items that stand for these, one by one, and ends
pub record ListsEach {S A B : Type 0} (can_next : S → Type 0) (next_gives : S → Option A → S → Type 0) (remaining : S → Count) (stands_for : A → B → Type 0) (iter : S) (items : List B) : Type 0 where
  pub can : can_next iter
  pub ends : IsFinite (remaining iter)
  pub gives : GivesEach next_gives stands_for iter items

-- whatever iterator a source becomes, it gives items that stand for these, one by one, and ends
abbrev pub GoesOverEach : {U S A B : Type 0} → (U → S → Type 0) → (S → Type 0) → (S → Option A → S → Type 0) → (S → Count) → (A → B → Type 0) → U → List B → Type 0
GoesOverEach {S = S} becomes can_next next_gives remaining stands_for source items = (iter : S) → becomes source iter → ListsEach can_next next_gives remaining stands_for iter items

-- an iterator that isn't asked again once it has ended gives items that stand for these, one by one, and ends
abbrev pub ListsEachOnce : {S A B : Type 0} → (S → Type 0) → (S → Option A → S → Type 0) → (S → Count) → (A → B → Type 0) → Fuse S → List B → Type 0
ListsEachOnce can_next next_gives remaining stands_for iter items = ListsEach (λ s. fuse_done s ≡ false → can_next (fuse_source s)) (fuse_steps next_gives) (λ s. count_unless (fuse_done s) (remaining (fuse_source s))) stands_for iter items
