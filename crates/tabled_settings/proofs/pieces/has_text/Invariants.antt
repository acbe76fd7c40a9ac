use Rattle.tabled_settings.proofs.Common.{◌<◌, ◌≡◌, ◌≤◌, false, has_text, map_grid, place_in, ℕ}
use Rattle.tabled_settings.proofs.pieces.has_text.Given as goal

abbrev pub invariant-loop-cell : goal.invariant-loop-cell
invariant-loop-cell g l =
    (j : ℕ) → l.fn.cells.start ≤ j → j < l.cell → has_text (map_grid g.R.Cell.CellText.text_of (g.R.GridStore.grid l.records)) (place_in l.axis l.line j) ≡ false
