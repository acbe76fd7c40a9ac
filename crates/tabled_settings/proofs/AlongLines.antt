-- Places and rectangles by their lines, and by where they are in them.
use Rattle.std.proofs.Common.{arith}
use Rattle.std.proofs.lemmas.Grind.{common_steps}
use Rattle.tabled_settings.proofs.Common.{◌+◌, ◌<◌, ◌≡◌, ◌≤◌, Axis, Columns, In, Position, Rectangle, Rows, Some, Takes, across, ap₂, count_of, in_line, line_of, lines_from, place, refl, ℕ}

pub across_is : (axis : Axis) (p : Position) (i : ℕ) → line_of (across axis) (in_line axis p i) ≡ line_of (across axis) p
across_is Rows p i = refl
across_is Columns p i = refl

-- a place is in a rectangle
pub record IsAlong (axis : Axis) (e : Rectangle) (p : Position) : Type 0 where
  pub first : line_of axis e.first ≤ line_of axis p
  pub last : line_of axis p < line_of axis e.first + count_of axis e.size.height e.size.width
  pub from : line_of (across axis) e.first ≤ line_of (across axis) p
  pub to : line_of (across axis) p < line_of (across axis) e.first + count_of (across axis) e.size.height e.size.width

pub is_along : (axis : Axis) (e : Rectangle) (p : Position) → In e p → IsAlong axis e p
is_along Rows e p h = record { first = h.top; last = h.bottom; from = h.left; to = h.right }
is_along Columns e p h = record { first = h.left; last = h.right; from = h.top; to = h.bottom }

pub is_in : (axis : Axis) (e : Rectangle) (p : Position) → IsAlong axis e p → In e p
is_in Rows e p h = record { top = h.first; bottom = h.last; left = h.from; right = h.to }
is_in Columns e p h = record { top = h.from; bottom = h.to; left = h.first; right = h.last }

-- a rectangle lies inside a table
pub record LiesAlong (axis : Axis) (rows columns : ℕ) (e : Rectangle) : Type 0 where
  pub lines : line_of axis e.first + count_of axis e.size.height e.size.width ≤ count_of axis rows columns
  pub across : line_of (across axis) e.first + count_of (across axis) e.size.height e.size.width ≤ count_of (across axis) rows columns

pub lies_along : (axis : Axis) (rows columns : ℕ) (e : Rectangle) → e.first.row + e.size.height ≤ rows → e.first.col + e.size.width ≤ columns → LiesAlong axis rows columns e
lies_along Rows rows columns e high far = record { lines = high; across = far }
lies_along Columns rows columns e high far = record { lines = far; across = high }

-- a new place takes the cell of an old one, where lines come from old ones
pub record TakesAlong (axis : Axis) (old : ℕ → ℕ) (rows columns : ℕ) (p q : Position) : Type 0 where
  pub within : line_of axis p < count_of axis rows columns
  pub across_within : line_of (across axis) p < count_of (across axis) rows columns
  pub line : old (line_of axis p) ≡ line_of axis q
  pub same : line_of (across axis) p ≡ line_of (across axis) q

module _ (old : ℕ → ℕ) (rows columns : ℕ) (p q : Position) where
  pub takes : (axis : Axis) → TakesAlong axis old rows columns p q → Takes (lines_from axis old rows columns) p q
  takes Rows t = record { row = t.within; col = t.across_within; from = ap₂ (λ (i j : ℕ). Some (place i j)) t.line t.same }
  takes Columns t = record { row = t.across_within; col = t.within; from = ap₂ (λ (i j : ℕ). Some (place i j)) t.same t.line }

  pub taken : (axis : Axis) → Takes (lines_from axis old rows columns) p q → TakesAlong axis old rows columns p q
  taken Rows t = grind (arith, common_steps)
  taken Columns t = grind (arith, common_steps)
