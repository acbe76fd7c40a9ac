use Rattle.std.proofs.Common.{◌≡◌, Some}
use Rattle.std.specs.String.{string_bytes}
use Rattle.tabled_grid.proofs.OwnStore.{cell_at-map_grid_some}
use Rattle.tabled_grid.specs.Grid.{cell_at}
use Rattle.tabled_own_store.proofs.ColumnStore.{cell_read, column_holds}
use Rattle.tabled_own_store.proofs.text_columns.TextColumnsPeekableRecords.get_text.Goals as goal

pub index-requires : goal.index-requires
index-requires c = column_holds _ _ c.self.inside.shape c.args.pos _ (rw (← c.self.view_is) at c.requires.inside) c.index-column.ensures

pub returns : goal.returns
returns c =
    let cell : cell_at c.args.self.now.grid c.args.pos ≡ Some c.index.result.now =
    rw (← c.self.view_is) (cell_read _ _ c.self.inside.shape c.args.pos _ (rw (← c.self.view_is) at c.requires.inside) c.index-column.ensures _ c.index.ensures) in
    rw c.as_str.ensures.value (cell_at-map_grid_some string_bytes c.args.self.now.grid c.args.pos _ cell)
