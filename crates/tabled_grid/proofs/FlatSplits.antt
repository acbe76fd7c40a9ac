-- Joined rows taken apart again.
use Rattle.tabled_grid.proofs.Common.{[], ◌*◌, ◌++◌, ◌+◌, ◌-◌, ◌<◌, ◌∷◌, ◌≡◌, List, Vec, append_assoc, arith, chunks, common_steps, drop, length, length-drop, map_items, map_push, rules, suc, take, ℕ}

-- one row more was taken off
module _ {A : Type 0} (r c i : ℕ) (left : List A) (h : i < r) where
  fewer : r - i ≡ suc (r - (i + 1))
  fewer = omega (arith, h)

  pub split_size : (rest : List A) → length left ≡ (r - i) * c → rest ≡ drop c left → length rest ≡ (r - (i + 1)) * c
  split_size rest size e = search (rules, fewer, length-drop)

  pub split_more : (whole : List (List A)) (old new : List (Vec A)) (row : Vec A) (rest : List A) → whole ≡ map_items old ++ chunks (r - i) c left → new ≡ old ++ row ∷ [] → row.items ≡ take c left → rest ≡ drop c left →
      whole ≡ map_items new ++ chunks (r - (i + 1)) c rest
  split_more whole old new row rest e is first behind = grind (arith, common_steps, fewer, append_assoc, map_push)
