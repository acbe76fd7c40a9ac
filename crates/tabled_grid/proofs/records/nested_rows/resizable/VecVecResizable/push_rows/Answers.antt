use Rattle.tabled_grid.proofs.Common.{◌∙◌, ap, length-map, map-append, map_items}
use Rattle.tabled_grid.proofs.NestedRows.{rows_added, rows_added_even}
use Rattle.tabled_grid.proofs.records.nested_rows.resizable.VecVecResizable.push_rows.Goals as goal

pub returns-clause-ok : goal.returns-clause-ok
returns-clause-ok g c =
    rows_added g.T.Blank.is_blank c.args.many _ (map_items c.in_ok-added.added.items) _ c.requires.well (length-map c.in_ok-added.added.items _ ∙ c.in_ok-added.ensures.many) (rw c.count_columns.ensures.columns at c.in_ok-added.ensures.blanks)
    (ap map_items c.in_ok-append.ensures.items ∙ map-append _ c.args.self.now.items c.in_ok-added.added.items)

pub returns-clause-well : goal.returns-clause-well
returns-clause-well g c =
    rows_added_even g.T.Blank.is_blank c.args.many _ (map_items c.in_ok-added.added.items) _ c.requires.well (length-map c.in_ok-added.added.items _ ∙ c.in_ok-added.ensures.many) (rw c.count_columns.ensures.columns at c.in_ok-added.ensures.blanks)
    (ap map_items c.in_ok-append.ensures.items ∙ map-append _ c.args.self.now.items c.in_ok-added.added.items)
