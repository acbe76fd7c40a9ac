-- How many anchors hide each cell of a block of a table.
use Rattle.std.specs.Prelude.{◌≡◌, ◌+◌, ◌*◌, ◌<◌, ◌%◌, ◌^◌, ◌==◌, ℕ, ◌&&◌, Bool, true, false, List, map, nat_le, nat_lt, not}
use Rattle.std.specs.List.{count_by}
use Rattle.tabled_grid.specs.Entity.{block, place, same_place}
use Rattle.tabled_grid.specs.Rectangles.{holds}
use Rattle.tabled_grid.specs.Spans.{SpanMap, rectangles}
use Rattle.tabled_grid.specs.declared.config.position.Position.{Position}
use Rattle.tabled_grid.specs.declared.config.rectangle.Rectangle.{Rectangle}
use Rattle.tabled_grid.specs.declared.config.size.Size.{Size}

-- the rectangle of an anchor at another place holds the place
abbrev pub hides : Position → Rectangle → Bool
hides p e = holds e p && not (same_place e.first p)

-- how many anchors of a list hide the place
abbrev pub hiders_in : List Rectangle → Position → ℕ
hiders_in es p = count_by (hides p) es

-- how many anchors hide the place
abbrev pub hiders_of : SpanMap → Position → ℕ
hiders_of m p = hiders_in (rectangles m) p

-- how many cells a shape has
abbrev pub area : Size → ℕ
area size = size.height * size.width

-- a number for each place of a shape, row by row
abbrev pub table : (Position → ℕ) → Size → List ℕ
table f size = map f (block 0 size.height 0 size.width)

-- the place n rows below another and n columns right of it
abbrev pub beyond : Position → Position → Position
beyond first p = place (first.row + p.row) (first.col + p.col)

-- how many anchors of a list hide each cell of a block, row by row
abbrev pub hider_counts : List Rectangle → Rectangle → List ℕ
hider_counts es cells = table (λ p. hiders_in es (beyond cells.first p)) cells.size

-- a block of cells, and a number for each of them, row by row
pub record Cover : Type 0 where
  pub block : Rectangle
  pub hiders : List ℕ

-- the numbers say how many anchors of a map hide each cell
pub record IsCoverOf (m : SpanMap) (cover : Cover) : Type 0 where
  pub counts : cover.hiders ≡ hider_counts (rectangles m) cover.block

-- the cells of a table up to the last one of a block have a number each below a limit
pub record IsNumbered (limit : ℕ) (cells : Rectangle) : Type 0 where
  pub bottom : cells.first.row + cells.size.height < 2 ^ 64
  pub right : cells.first.col + cells.size.width < 2 ^ 64
  pub numbers : (cells.first.row + cells.size.height) * (cells.first.col + cells.size.width) < limit

-- the place is in a row, between two columns
abbrev pub in_run : ℕ → ℕ × ℕ → Position → Bool
in_run i run p = (p.row == i) && (nat_le run.0 p.col && nat_lt p.col run.1)

-- numbers for the places of a shape differ by a step, round a limit, at those that pass a test, and are the same at the others
pub record Stepped (test : Position → Bool) (step limit : ℕ) (size : Size) (f g : Position → ℕ) : Type 0 where
  pub here : (i j : ℕ) → i < size.height → j < size.width → test (place i j) ≡ true → g (place i j) ≡ (f (place i j) + step) % limit
  pub others : (i j : ℕ) → i < size.height → j < size.width → test (place i j) ≡ false → g (place i j) ≡ f (place i j)

-- a list is stepped at the places of a shape that pass a test
pub record Steps (old new : List ℕ) (test : Position → Bool) (step limit : ℕ) (size : Size) : Type 0 where
  pub is : (f g : Position → ℕ) → Stepped test step limit size f g → old ≡ table f size → new ≡ table g size
