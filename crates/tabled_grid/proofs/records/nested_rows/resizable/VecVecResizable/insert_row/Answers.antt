use Rattle.tabled_grid.proofs.Common.{◌∙◌, ap, grid_of, map-insert, map_items, with_row}
use Rattle.tabled_grid.proofs.NestedRows.{HaveGrid, have_grid}
use Rattle.tabled_grid.proofs.Resized.{IsEven-with_row, rowless-with_row}
use Rattle.tabled_grid.proofs.records.nested_rows.resizable.VecVecResizable.insert_row.Goals as goal

inserted : (g : _) (c : goal.In_ok-insert g) → HaveGrid (map_items c.insert.new.self.items) (with_row (grid_of (map_items c.args.self.now.items)) c.args.i c.in_ok-row.row.items)
inserted g c =
    have_grid _ _ (IsEven-with_row _ c.requires.well c.args.i c.in_ok-row.row.items c.requires.within (rw c.count_columns.ensures.columns at c.in_ok-row.ensures.many)) (rowless-with_row (grid_of (map_items c.args.self.now.items)) c.args.i c.in_ok-row.row.items)
    (ap map_items c.in_ok-insert.ensures.items ∙ map-insert _ c.args.self.now.items c.args.i c.in_ok-row.row)

pub returns-clause-ok : goal.returns-clause-ok
returns-clause-ok g c = record { row = c.in_ok-row.row.items; blanks = rw c.count_columns.ensures.columns at c.in_ok-row.ensures; is = (inserted g c).is }

pub returns-clause-well : goal.returns-clause-well
returns-clause-well g c = (inserted g c).well
