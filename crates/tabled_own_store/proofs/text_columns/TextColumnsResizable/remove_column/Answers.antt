use Rattle.std.proofs.Common.{◌∙◌, ap}
use Rattle.tabled_grid.proofs.Lists.{map-remove}
use Rattle.tabled_grid.specs.Grid.{map_items}
use Rattle.tabled_own_store.proofs.ColumnStore.{column_removed}
use Rattle.tabled_own_store.proofs.text_columns.TextColumnsResizable.remove_column.Goals as goal

pub invariant_of-self-inside : goal.invariant_of-self-inside
invariant_of-self-inside c =
    ((column_removed _ _ c.self.inside.shape c.args.j _ (rw (← c.self.view_is) at c.requires.within) (ap map_items c.remove-column.ensures.items ∙ map-remove _ c.self.inside.columns.items c.args.j)).well, tt)

pub returns-clause-removed : goal.returns-clause-removed
returns-clause-removed c =
    rw (← c.self.view_is) (column_removed _ _ c.self.inside.shape c.args.j _ (rw (← c.self.view_is) at c.requires.within) (ap map_items c.remove-column.ensures.items ∙ map-remove _ c.self.inside.columns.items c.args.j)).is
