-- Ranges and vectors as what is gone over.
use Rattle.std.proofs.Common.{arith}
use Rattle.tabled_select.proofs.Common.{[], ◌-◌, ◌∷◌, ◌≡◌, Column, GivesAll, List, Position, Vec, YieldsList-from_range, YieldsList-from_vec, ap, at_most, columns_of, common_steps, into_iter_items, into_iter_len, into_iter_steps, map, nat_range_steps, range_with_len, refl, ℕ}
use Rattle.std.specs.Bool.{⊤}
use Rattle.std.specs.Global.{Global}
use Rattle.std.specs.Vec.{vec_len}
use Rattle.std.specs.declared.ops.Range.{Range}

-- a range gives its indexes
pub range-gives : (gap : Range ℕ → ℕ) (range : Range ℕ) (a b : ℕ) → range.start ≡ a → range.end ≡ b → GivesAll (λ _. ⊤) nat_range_steps (λ s. at_most (gap s)) range (range_with_len a (b - a))
range-gives gap range a b start end = grind (arith, common_steps, YieldsList-from_range)

-- a vector gives its items
pub vec-gives : {A : Type 0} (v : Vec A) (iter : _) (items : List A) → into_iter_items iter ≡ v.items → into_iter_len iter ≡ vec_len v → v.items ≡ items → GivesAll (λ _. ⊤) (into_iter_steps {X = A} {Z = Global}) (λ s. at_most (into_iter_len s)) iter items
vec-gives v iter items rest len is = grind (arith, common_steps, YieldsList-from_vec)

-- columns by the indexes of places
pub columns_of-places : (places : List Position) → map (λ (p : Position). Column p.col) places ≡ columns_of (map (λ (p : Position). p.col) places)
columns_of-places [] = refl
columns_of-places (p ∷ places) = ap (λ rest. Column p.col ∷ rest) (columns_of-places places)
