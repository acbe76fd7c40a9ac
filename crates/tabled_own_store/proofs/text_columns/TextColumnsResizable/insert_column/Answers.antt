use Rattle.std.proofs.Common.{◌∙◌, ap}
use Rattle.tabled_grid.proofs.Lists.{map-insert}
use Rattle.tabled_grid.specs.Grid.{map_items}
use Rattle.tabled_own_store.proofs.ColumnStore.{column_inserted, vectors_inserted_well}
use Rattle.tabled_own_store.proofs.text_columns.TextColumnsResizable.insert_column.Goals as goal

pub invariant_of-self-inside : goal.invariant_of-self-inside
invariant_of-self-inside c =
    (vectors_inserted_well _ _ c.self.inside.shape c.args.j c.in_ok-column.column _ _ (rw (← c.self.view_is) at c.requires.within) c.if-self-eq0.false c.in_ok-column.ensures.many c.insert.ensures.items, tt)

pub returns-clause-ok : goal.returns-clause-ok
returns-clause-ok c =
    rw (← c.self.view_is)
    (column_inserted _ _ c.self.inside.shape _ c.args.j c.in_ok-column.column.items _ (rw (← c.self.view_is) at c.requires.within) c.if-self-eq0.false c.in_ok-column.ensures
    (ap map_items c.in_ok-insert.ensures.items ∙ map-insert _ c.self.inside.columns.items c.args.j c.in_ok-column.column))
