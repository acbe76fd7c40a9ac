-- The smallest rectangle around the new places of some cells.
use Rattle.std.specs.Prelude.{◌≡◌, ◌<◌, ◌≤◌, ◌^◌, ◌+◌}
use Rattle.tabled_grid.specs.Rectangles.{In}
use Rattle.tabled_grid.specs.Places.{Places}
use Rattle.tabled_grid.specs.declared.config.position.Position.{Position}
use Rattle.tabled_grid.specs.declared.config.rectangle.Rectangle.{Rectangle}
use Rattle.tabled_carry.specs.Images.{Takes}

-- a place is neither above or left of one place, nor below or right of another
pub record Between (first last p : Position) : Type 0 where
  pub top : first.row ≤ p.row
  pub bottom : p.row ≤ last.row
  pub left : first.col ≤ p.col
  pub right : p.col ≤ last.col

-- two corners lie around the new places of some cells of a rectangle, each of which has just one, and no rectangle around those of all is smaller
pub record Around (places : Places) (e : Rectangle) (some : Position → Type 0) (first last : Position) : Type 0 where
  pub each : (q : Position) → some q → (p : Position) × Takes places p q × Between first last p × ((r : Position) → Takes places r q → r ≡ p)
  pub least : (g : Rectangle) → ((p q : Position) → Takes places p q → In e q → In g p) → In g first × In g last
  pub order : Between first last first
  pub row : last.row + 1 < 2 ^ 64
  pub col : last.col + 1 < 2 ^ 64
