use Rattle.tabled_grid.proofs.Common.{◌∙◌, ap, grid_of, map-remove, map_items, without_row}
use Rattle.tabled_grid.proofs.NestedRows.{HaveGrid, have_grid}
use Rattle.tabled_grid.proofs.Resized.{IsEven-without_row, rowless-without_row}
use Rattle.tabled_grid.proofs.records.nested_rows.resizable.VecVecResizable.remove_row.Goals as goal

removed : (g : _) (c : goal.After-drop-row g) → HaveGrid (map_items c.remove-row.new.self.items) (without_row (grid_of (map_items c.args.self.now.items)) c.args.i)
removed g c =
    have_grid _ _ (IsEven-without_row _ c.args.i c.requires.within c.requires.well) (rowless-without_row (grid_of (map_items c.args.self.now.items)) c.args.i c.requires.within)
    (ap map_items c.remove-row.ensures.items ∙ map-remove _ c.args.self.now.items c.args.i)

pub returns-clause-removed : goal.returns-clause-removed
returns-clause-removed g c = (removed g c).is

pub returns-clause-well : goal.returns-clause-well
returns-clause-well g c = (removed g c).well
