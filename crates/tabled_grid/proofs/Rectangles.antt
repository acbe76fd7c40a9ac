-- What the tests of rectangles say, and which rectangles share a cell.
use Rattle.tabled_grid.proofs.Common.{◌&&◌, ◌≡◌, Bool, HasArea, In, LiesInside, Meets, Position, Rectangle, and_from, and_parts, arith, common_steps, false, holds, le-leb, lies_inside, lt-ltb, max, meets, place, refl, true, ℕ}

pub holds-true : (e : Rectangle) (p : Position) → holds e p ≡ true → In e p
holds-true e p t = grind (arith, common_steps, and_parts)

pub holds-from : (e : Rectangle) (p : Position) → In e p → holds e p ≡ true
holds-from e p i = and_from _ _ (and_from _ _ (le-leb _ _ i.top) (lt-ltb _ _ i.bottom)) (and_from _ _ (le-leb _ _ i.left) (lt-ltb _ _ i.right))

pub meets-true : (a b : Rectangle) → meets a b ≡ true → Meets a b
meets-true a b t = grind (arith, common_steps, and_parts)

pub meets-from : (a b : Rectangle) → Meets a b → meets a b ≡ true
meets-from a b m = and_from _ _ (and_from _ _ (lt-ltb _ _ m.above) (lt-ltb _ _ m.below)) (and_from _ _ (lt-ltb _ _ m.left) (lt-ltb _ _ m.right))

pub lies_inside-true : (rows columns : ℕ) (e : Rectangle) → lies_inside rows columns e ≡ true → LiesInside rows columns e
lies_inside-true rows columns e t = grind (arith, common_steps, and_parts)

pub lies_inside-from : (rows columns : ℕ) (e : Rectangle) → LiesInside rows columns e → lies_inside rows columns e ≡ true
lies_inside-from rows columns e i = and_from _ _ (le-leb _ _ i.bottom) (le-leb _ _ i.right)

both-turned : (a b : Bool) → (a && b) ≡ (b && a)
both-turned true true = refl
both-turned true false = refl
both-turned false true = refl
both-turned false false = refl

-- two rectangles share a cell either way
pub meets-turned : (a b : Rectangle) → meets a b ≡ meets b a
meets-turned a b = grind (arith, common_steps, both-turned)

-- two rectangles with a common cell meet
pub meets-common : (a b : Rectangle) (p : Position) → In a p → In b p → meets a b ≡ true
meets-common a b p i j = grind (arith, common_steps, meets-from)

-- two rectangles that meet share a cell
pub common_cell : (a b : Rectangle) → HasArea a → HasArea b → Meets a b → (p : Position) × In a p × In b p
common_cell a b full other m = (
  place (max a.first.row b.first.row) (max a.first.col b.first.col),
  record { top = omega arith; bottom = omega (arith, full.height, m.below); left = omega arith; right = omega (arith, full.width, m.right) },
  record { top = omega arith; bottom = omega (arith, other.height, m.above); left = omega arith; right = omega (arith, other.width, m.left) },
)
