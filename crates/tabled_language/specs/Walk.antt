-- A walk over rectangles row by row, which notes those that may reach the next row by the columns of their anchors.
use Rattle.std.specs.Prelude.{◌≡◌, ◌+◌, ◌<◌, ◌≤◌, ◌⊎◌, ℕ, List, None, Some, get_or, length}
use Rattle.std.specs.BTreeMap.{BTreeMap, get}
use Rattle.std.specs.Ordering.{nat_cmp}
use Rattle.tabled_grid.specs.declared.config.rectangle.Rectangle.{Rectangle}

-- anchors stand in the order of their rows
abbrev pub RowsRise : List Rectangle → Type 0
RowsRise es = (k : ℕ) (d : Rectangle) → k + 1 < length es → (get_or es k d).first.row ≤ (get_or es (k + 1) d).first.row

-- the rectangle of an anchor ends above a row
abbrev pub EndsAbove : ℕ → Rectangle → Type 0
EndsAbove row e = e.first.row + e.size.height ≤ row

-- two rectangles share no column
abbrev pub IsBeside : Rectangle → Rectangle → Type 0
IsBeside e f = (f.first.col + f.size.width ≤ e.first.col) ⊎ (e.first.col + e.size.width ≤ f.first.col)

-- each rectangle stands by the column of its anchor
abbrev pub AreKeyed : BTreeMap ℕ Rectangle → Type 0
AreKeyed m = (q : ℕ) (f : Rectangle) → get nat_cmp m q ≡ Some f → f.first.col ≡ q

-- of two that reach a row the one that begins first ends before the other
abbrev pub AreBeside : ℕ → BTreeMap ℕ Rectangle → Type 0
AreBeside row m = (q r : ℕ) (f g : Rectangle) → get nat_cmp m q ≡ Some f → get nat_cmp m r ≡ Some g → q < r → row < f.first.row + f.size.height → row < g.first.row + g.size.height → f.first.col + f.size.width ≤ r

-- none that is noted and reaches an anchor's row shares a column with its rectangle
abbrev pub IsClear : BTreeMap ℕ Rectangle → Rectangle → Type 0
IsClear m e = (q : ℕ) (f : Rectangle) → get nat_cmp m q ≡ Some f → EndsAbove e.first.row f ⊎ IsBeside e f

-- one that is noted reaches an anchor's row and shares a column with its rectangle
abbrev pub IsMet : BTreeMap ℕ Rectangle → Rectangle → Type 0
IsMet m e = (q : ℕ) × (f : Rectangle) × (get nat_cmp m q ≡ Some f) × (e.first.row < f.first.row + f.size.height) × (f.first.col < e.first.col + e.size.width) × (e.first.col < f.first.col + f.size.width)

-- none begins before a column
abbrev pub NoneBefore : BTreeMap ℕ Rectangle → ℕ → Type 0
NoneBefore m end = (q : ℕ) → q < end → get nat_cmp m q ≡ None

-- a rectangle is the last that begins before a column
abbrev pub IsLastBefore : BTreeMap ℕ Rectangle → ℕ → Rectangle → Type 0
IsLastBefore m end f = (q : ℕ) × (q < end) × (get nat_cmp m q ≡ Some f) × ((r : ℕ) → q < r → r < end → get nat_cmp m r ≡ None)

-- of old rectangles all stay but for some that end above a row
pub record DropsEnded (row : ℕ) (old new : BTreeMap ℕ Rectangle) : Type 0 where
  pub had : (q : ℕ) (f : Rectangle) → get nat_cmp new q ≡ Some f → get nat_cmp old q ≡ Some f
  pub stays : (q : ℕ) (f : Rectangle) → get nat_cmp old q ≡ Some f → EndsAbove row f ⊎ (get nat_cmp new q ≡ Some f)
