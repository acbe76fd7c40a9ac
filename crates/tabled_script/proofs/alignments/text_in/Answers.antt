use Rattle.tabled_script.proofs.Common.{IsEven-map_grid, arith, map_grid, sym}
use Rattle.tabled_settings.proofs.RowKeys.{text-past-columns, text-past-rows}
use Rattle.tabled_script.proofs.alignments.text_in.Goals as goal

pub returns-then-pos-count_rows : goal.returns-then-pos-count_rows
returns-then-pos-count_rows g c =
    let grid = g.R.GridStore.grid c.args.records.now in
    let even = IsEven-map_grid g.R.Cell.CellText.text_of grid (g.R.GridStore.even _ c.requires) in
    sym (text-past-rows (map_grid g.R.Cell.CellText.text_of grid) c.args.pos (omega (arith, even.tall)))

pub returns-then-pos-count_columns : goal.returns-then-pos-count_columns
returns-then-pos-count_columns g c =
    let grid = g.R.GridStore.grid c.args.records.now in
    sym (text-past-columns (map_grid g.R.Cell.CellText.text_of grid) (IsEven-map_grid g.R.Cell.CellText.text_of grid (g.R.GridStore.even _ c.requires)) c.args.pos (omega arith))
