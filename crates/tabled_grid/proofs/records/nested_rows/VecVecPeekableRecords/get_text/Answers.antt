use Rattle.tabled_grid.proofs.Common.{grid_of, map_items}
use Rattle.tabled_grid.proofs.Grids.{cell_at-map_grid_some}
use Rattle.tabled_grid.proofs.NestedRows.{row_holds, row_cell}
use Rattle.tabled_grid.proofs.records.nested_rows.VecVecPeekableRecords.get_text.Goals as goal

pub index-requires : goal.index-requires
index-requires g c = row_holds c.args.self.now.items c.args.pos c.index-row.result.now c.requires.well c.requires.inside c.index-row.ensures

pub returns : goal.returns
returns g c =
    rw c.text.ensures
    (cell_at-map_grid_some g.T.CellText.text_of (grid_of (map_items c.args.self.now.items)) c.args.pos c.index.result.now
    (row_cell c.args.self.now.items c.args.pos c.index-row.result.now c.requires.well c.requires.inside c.index-row.ensures c.index.result.now c.index.ensures))
