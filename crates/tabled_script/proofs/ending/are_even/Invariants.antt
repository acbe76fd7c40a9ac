use Rattle.std.specs.List.{AllByRecursion}
use Rattle.std.specs.Prelude.{◌≡◌, List, length, take}
use Rattle.std.specs.Borrow.{Bor}
use Rattle.tabled_grid.specs.Grid.{map_items}
use Rattle.tabled_script.proofs.Common.{ℕ}
use Rattle.tabled_script.proofs.ending.are_even.Given as goal

abbrev pub invariant-loop-row : goal.invariant-loop-row
invariant-loop-row l = AllByRecursion (λ (row : List (Bor (List ℕ))). length row ≡ l.width) (map_items (take l.row-index l.rows))
