-- A list of all cells is an even grid.
use Rattle.std.specs.Prelude.{ℕ, List}
use Rattle.tabled_grid.specs.Evenness.{length-chunks, wide-chunks}
use Rattle.tabled_grid.specs.Flat.{IsFull, flat_grid}
use Rattle.tabled_grid.specs.Grid.{IsEven}

pub is_even : {A : Type 0} (r c : ℕ) (xs : List A) → IsFull r c xs → IsEven (flat_grid r c xs)
is_even r c xs h = record { tall = length-chunks r c xs; wide = wide-chunks r c xs h.full }
