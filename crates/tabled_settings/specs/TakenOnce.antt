-- Cells that are taken to exactly one new place.
use Rattle.std.specs.Prelude.{◌≡◌, ◌<◌, ℕ, Some}
use Rattle.tabled_grid.specs.Places.{Places}
use Rattle.tabled_grid.specs.declared.config.position.Position.{Position}

-- an old place is that of exactly one new place
pub record IsTakenOnce (places : Places) (q : Position) : Type 0 where
  pub to : Position
  pub row : to.row < places.size.height
  pub col : to.col < places.size.width
  pub takes : places.old_place to ≡ Some q
  pub alone : (p : Position) → p.row < places.size.height → p.col < places.size.width → places.old_place p ≡ Some q → p ≡ to

-- each cell of a table of r rows and c columns is taken to exactly one new place
abbrev pub TakesEachOnce : Places → ℕ → ℕ → Type 0
TakesEachOnce places rows columns = (q : Position) → q.row < rows → q.col < columns → IsTakenOnce places q
