-- A list of rectangles, as their images are written over it.
use Rattle.tabled_carry.proofs.Common.{[], ◌++◌, ◌+◌, ◌<◌, ◌∷◌, ◌≡◌, ◌≤◌, List, Places, Rectangle, arith, common_steps, get_or, get_or-set_other, length, length-set, set, take, ℕ}
use Rattle.tabled_carry.proofs.Carrying.{Images}

-- the first ones are looked at, their images stand at the front, and the others are as they were
pub record Underway (places : Places) (old new : List Rectangle) (count index : ℕ) : Type 0 where
  pub images : Images places (take index old) (take count new)
  pub rest : (k : ℕ) (d : Rectangle) → index ≤ k → get_or new k d ≡ get_or old k d
  pub many : length new ≡ length old
  pub front : count ≤ index

module _ (places : Places) (old new : List Rectangle) (count index : ℕ) (u : Underway places old new count index) (here : index < length old) where
  -- an image is written
  pub underway-some : (f : Rectangle) → Images places (take (index + 1) old) (take count new ++ f ∷ []) → Underway places old (set new count f) (count + 1) (index + 1)
  underway-some f is = grind (arith, common_steps, get_or-set_other, length-set)

  -- there is none
  pub underway-none : Images places (take (index + 1) old) (take count new) → Underway places old new count (index + 1)
  underway-none is = record { images = is; rest = λ k d below. u.rest k d (omega (arith, below)); many = u.many; front = omega (arith, u.front) }
