-- Iterators that show what is left.
use Rattle.std.proofs.Common.{◌≡◌, List, refl}
use Rattle.std.specs.Iterator.{YieldsFirst, item_count}
use Rattle.std.proofs.lemmas.Iterator.Consumers.{YieldsList-from_first}
use Rattle.tabled_select.specs.Located.{GivesAll}

-- an iterator gives the items that it shows
pub shown_are_given : {S A : Type 0} (can : S → Type 0) (rest : S → List A) (s : S) (items : List A) → can s → rest s ≡ items → GivesAll can (YieldsFirst rest) (item_count rest) s items
shown_are_given {A = A} can rest s items h e = record {
  can = h;
  ends = tt;
  gives = (YieldsList-from_first (λ (x : A). x) rest items e).runs;
}

-- an iterator that is seen as the list of what it has left
pub GivesAll-rest : {A : Type 0} (can : List A → Type 0) (iter : List A) → can iter → GivesAll can (YieldsFirst (λ s. s)) (item_count (λ s. s)) iter iter
GivesAll-rest can iter h = shown_are_given can (λ s. s) iter iter h refl
