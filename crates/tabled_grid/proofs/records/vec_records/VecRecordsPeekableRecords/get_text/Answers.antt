use Rattle.tabled_grid.proofs.Grids.{cell_at-map_grid_some}
use Rattle.tabled_grid.proofs.records.vec_records.VecRecordsPeekableRecords.get_text.Goals as goal

pub returns : goal.returns
returns g c = rw c.text.ensures (cell_at-map_grid_some g.T.CellText.text_of c.args.self.now.grid c.args.pos c.get.result.now c.get.ensures)
