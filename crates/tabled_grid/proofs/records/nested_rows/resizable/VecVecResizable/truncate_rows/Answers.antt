use Rattle.tabled_grid.proofs.Common.{◌∙◌, Rows, ap, first_along, grid_of, map_items, sym, take-map}
use Rattle.tabled_grid.proofs.NestedRows.{HaveGrid, rows_cut}
use Rattle.tabled_grid.proofs.records.nested_rows.resizable.VecVecResizable.truncate_rows.Goals as goal

cut : (g : _) (c : goal.After-truncate g) → HaveGrid (map_items c.truncate.new.self.items) (first_along Rows c.args.count (grid_of (map_items c.args.self.now.items)))
cut g c = rows_cut c.args.count _ _ c.requires.within c.requires.well (ap map_items c.truncate.ensures.items ∙ sym (take-map _ c.args.count c.args.self.now.items))

pub returns-clause-first : goal.returns-clause-first
returns-clause-first g c = (cut g c).is

pub returns-clause-well : goal.returns-clause-well
returns-clause-well g c = (cut g c).well
