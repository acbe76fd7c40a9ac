use Rattle.tabled_settings.proofs.Common.{◌≡◌, map_grid, take}
use Rattle.tabled_settings.specs.Named.{all_columns_named}
use Rattle.tabled_settings.proofs.line_names.find_columns.Given as goal

abbrev pub invariant-loop-name : goal.invariant-loop-name
invariant-loop-name g l = l.found.items ≡ all_columns_named (take l.name-index l.names) (map_grid g.R.Cell.CellText.text_of (g.R.GridStore.grid l.fn.records))
