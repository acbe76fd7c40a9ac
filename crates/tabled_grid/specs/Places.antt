-- Where the cells of a grid come from.
use Rattle.std.specs.Prelude.{◌≡◌, ◌<◌, Option, None, Some}
use Rattle.std.specs.Option.{IfSome}
use Rattle.tabled_grid.specs.Grid.{Grid, IsEven, IsInside, cell_at}
use Rattle.tabled_grid.specs.declared.config.position.Position.{Position}
use Rattle.tabled_grid.specs.declared.config.size.Size.{Size}

-- a new shape, and for each new place its old place or none
pub record Places : Type 0 where
  pub size : Size
  pub old_place : Position → Option Position

-- a place of the new shape
pub record Within (places : Places) (p : Position) : Type 0 where
  pub row : p.row < places.size.height
  pub col : p.col < places.size.width

-- each old place lies in the old grid, and is that of one new place
pub record TakesOnce {A : Type 0} (places : Places) (old : Grid A) : Type 0 where
  pub inside : (p q : Position) → Within places p → places.old_place p ≡ Some q → IsInside old q
  pub apart : (p r q : Position) → Within places p → Within places r → places.old_place p ≡ Some q → places.old_place r ≡ Some q → p ≡ r

-- the new grid has the new shape, and in each place that has an old one the cell of that old place
pub record ReadsThrough {A : Type 0} (places : Places) (old new : Grid A) : Type 0 where
  pub even : IsEven new
  pub rows : new.rows ≡ places.size.height
  pub columns : new.columns ≡ places.size.width
  pub moved : (p : Position) → IsInside new p → IfSome (places.old_place p) (λ (q : Position). cell_at new p ≡ cell_at old q)

-- each new place has the cell of its old place, or a blank where it has none
pub record FillsThrough {A : Type 0} (is_blank : A → Type 0) (places : Places) (old new : Grid A) : Type 0 where
  pub reads : ReadsThrough places old new
  pub blanks : (p : Position) → IsInside new p → places.old_place p ≡ None → (cell : A) × is_blank cell × (cell_at new p ≡ Some cell)

-- a grid of the shape of another
pub record IsShapedAs {A : Type 0} (old new : Grid A) : Type 0 where
  pub even : IsEven new
  pub rows : new.rows ≡ old.rows
  pub columns : new.columns ≡ old.columns
