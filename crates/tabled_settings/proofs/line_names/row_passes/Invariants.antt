use Rattle.tabled_settings.proofs.Common.{◌≡◌, false, map_grid, take}
use Rattle.tabled_settings.specs.Named.{row_passes, text_passes}
use Rattle.tabled_settings.proofs.line_names.row_passes.Given as goal

abbrev pub invariant-loop-column : goal.invariant-loop-column
invariant-loop-column g l = row_passes (text_passes l.test) (take l.column-index l.columns) (map_grid g.R.Cell.CellText.text_of (g.R.GridStore.grid l.fn.records)) l.fn.row ≡ false
