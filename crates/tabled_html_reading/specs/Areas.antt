-- Rectangles that tile a table, and the rows of elements that stand for them.
use Rattle.std.specs.Prelude.{◌≡◌, ◌+◌, ◌-◌, ◌<◌, ◌≤◌, ◌⊎◌, ◌==◌, ◌&&◌, ◌||◌, ◌++◌, if◌then◌else◌, ℕ, Bool, List, [], ◌∷◌, nat_lt, not, suc, true, zero, false}
use Rattle.tabled_html_reading.specs.Elements.{Element, Group}
use Rattle.tabled_html_reading.specs.Forming.{Cell, Forming, any_below, cells_at, colspan_of, lacks_anchors, rowspan_of}

-- what f gives of 0, of 1 and so on up to below n, one after another
abbrev pub series : {A : Type 0} → ℕ → (ℕ → List A) → List A
series {A} zero f = []
series {A} (suc n) f = series n f ++ f n

-- slots from x and y on
pub record Area : Type 0 where
  pub x : ℕ
  pub y : ℕ
  pub width : ℕ
  pub height : ℕ

-- a slot is not in the table
abbrev pub IsOutside : ℕ → ℕ → ℕ → ℕ → Type 0
IsOutside columns rows x y = (columns ≤ x) ⊎ (rows ≤ y)

-- a slot is in an area
pub record In (a : Area) (x y : ℕ) : Type 0 where
  pub left : a.x ≤ x
  pub right : x < a.x + a.width
  pub top : a.y ≤ y
  pub bottom : y < a.y + a.height

-- each slot of a table is in its area, which is also that of all its other slots, and lies in the table; its element says
-- how large it is
pub record Tiles (columns rows : ℕ) (own : ℕ → ℕ → Area) (element : Area → Element) : Type 0 where
  pub holds : (x y : ℕ) → x < columns → y < rows → In (own x y) x y
  pub shared : (x y u v : ℕ) → x < columns → y < rows → u < columns → v < rows → In (own x y) u v → own u v ≡ own x y
  pub across : (x y : ℕ) → x < columns → y < rows → (own x y).x + (own x y).width ≤ columns
  pub down : (x y : ℕ) → x < columns → y < rows → (own x y).y + (own x y).height ≤ rows
  pub wide : (x y : ℕ) → x < columns → y < rows → colspan_of (element (own x y)) ≡ (own x y).width
  pub high : (x y : ℕ) → x < columns → y < rows → rowspan_of (element (own x y)) ≡ (own x y).height

-- the cell of an area
abbrev pub cell_in : (Area → Element) → Area → Cell
cell_in element a = record { x = a.x; y = a.y; element = element a }

-- the area of a slot begins there
abbrev pub begins : (ℕ → ℕ → Area) → ℕ → ℕ → Bool
begins own x y = ((own x y).x == x) && ((own x y).y == y)

-- in one of the rows no area begins, or in one of the columns
abbrev pub lacks_beginnings : ℕ → ℕ → (ℕ → ℕ → Area) → Bool
lacks_beginnings columns rows own =
    any_below rows (λ y. not (any_below columns (λ x. begins own x y)))
    || any_below columns (λ x. not (any_below rows (λ y. begins own x y)))

-- the element of a slot, where its area begins there
abbrev pub elements_at : (ℕ → ℕ → Area) → (Area → Element) → ℕ → ℕ → List Element
elements_at own element y x = if begins own x y then element (own x y) ∷ [] else []

-- the elements of a row
abbrev pub row_in : ℕ → (ℕ → ℕ → Area) → (Area → Element) → ℕ → List Element
row_in columns own element y = series columns (elements_at own element y)

-- the elements of each of some rows, the first of which is known
abbrev pub rows_between : ℕ → (ℕ → ℕ → Area) → (Area → Element) → ℕ → ℕ → List (List Element)
rows_between columns own element first count = series count (λ k. row_in columns own element (first + k) ∷ [])

-- all rows as the body of a table
abbrev pub as_body : ℕ → ℕ → (ℕ → ℕ → Area) → (Area → Element) → List Group
as_body columns rows own element = record { is_head = false; rows = rows_between columns own element 0 rows } ∷ []

-- the first rows as its head, and the others as its body
abbrev pub as_head_and_body : ℕ → ℕ → (ℕ → ℕ → Area) → (Area → Element) → ℕ → List Group
as_head_and_body columns rows own element head =
    record { is_head = true; rows = rows_between columns own element 0 head } ∷ record { is_head = false; rows = rows_between columns own element head (rows - head) } ∷ []

-- the areas of the first rows end in them
abbrev pub EndWithin : ℕ → (ℕ → ℕ → Area) → ℕ → Type 0
EndWithin columns own head = (x y : ℕ) → x < columns → y < head → (own x y).y + (own x y).height ≤ head

-- a slot comes before row i's column j, row by row
abbrev pub is_before : ℕ → ℕ → ℕ → ℕ → Bool
is_before i j x y = nat_lt y i || ((y == i) && nat_lt x j)

-- the area of a slot begins before row i's column j
abbrev pub begun : (ℕ → ℕ → Area) → ℕ → ℕ → ℕ → ℕ → Bool
begun own i j x y = is_before i j (own x y).x (own x y).y

-- the cells of a slot at that point
abbrev pub seen : (ℕ → ℕ → Area) → (Area → Element) → ℕ → ℕ → ℕ → ℕ → List Cell
seen own element i j x y = if begun own i j x y then cell_in element (own x y) ∷ [] else []

-- the table is formed up to row i
pub record Between (columns rows : ℕ) (own : ℕ → ℕ → Area) (element : Area → Element) (i : ℕ) (f : Forming) : Type 0 where
  pub slots : (x y : ℕ) → x < columns → y < rows → cells_at f.covered x y ≡ seen own element i 0 x y
  pub outside : (x y : ℕ) → IsOutside columns rows x y → cells_at f.covered x y ≡ []
  pub growing : f.growing ≡ []
  pub apart : f.overlaps ≡ false
  pub at : f.ycurrent ≡ i
  pub low : i ≤ f.ywidth
  pub high : f.ywidth ≤ rows
  pub wide : f.xwidth ≤ columns
  pub reach : (x y : ℕ) → x < columns → y < rows → begun own i 0 x y ≡ true → x < f.xwidth

-- the table is formed up to row i's column j: the slots between that column and xcurrent have cells, whichever comes first
pub record InRow (columns rows : ℕ) (own : ℕ → ℕ → Area) (element : Area → Element) (i j : ℕ) (f : Forming) : Type 0 where
  pub slots : (x y : ℕ) → x < columns → y < rows → cells_at f.covered x y ≡ seen own element i j x y
  pub outside : (x y : ℕ) → IsOutside columns rows x y → cells_at f.covered x y ≡ []
  pub growing : f.growing ≡ []
  pub apart : f.overlaps ≡ false
  pub at : f.ycurrent ≡ i
  pub low : i < f.ywidth
  pub high : f.ywidth ≤ rows
  pub wide : f.xwidth ≤ columns
  pub reach : (x y : ℕ) → x < columns → y < rows → begun own i j x y ≡ true → x < f.xwidth
  pub behind : (k : ℕ) → f.xcurrent ≤ k → k < j → begun own i j k i ≡ true
  pub ahead : (k : ℕ) → j ≤ k → k < f.xcurrent → begun own i j k i ≡ true
  pub reached : f.xcurrent ≤ f.xwidth

-- the formed table is the tiled one
pub record IsTiled (columns rows : ℕ) (own : ℕ → ℕ → Area) (element : Area → Element) (f : Forming) : Type 0 where
  pub across : f.xwidth ≡ columns
  pub down : f.ywidth ≡ rows
  pub apart : f.overlaps ≡ false
  pub slots : (x y : ℕ) → x < columns → y < rows → cells_at f.covered x y ≡ cell_in element (own x y) ∷ []
  pub outside : (x y : ℕ) → IsOutside columns rows x y → cells_at f.covered x y ≡ []
  pub anchors : lacks_anchors f ≡ lacks_beginnings columns rows own
