use Rattle.tabled_settings.proofs.Common.{◌<◌, ◌≡◌, false, map_grid, place, ℕ}
use Rattle.tabled_select.specs.Locators.{text_is}
use Rattle.tabled_settings.proofs.sort.rows.first_named.Given as goal

abbrev pub invariant-loop-col : goal.invariant-loop-col
invariant-loop-col g l = (k : ℕ) → k < l.col → text_is l.name (map_grid g.R.Cell.CellText.text_of (g.R.GridStore.grid l.records)) (place 0 k) ≡ false
