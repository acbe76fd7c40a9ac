-- Lemmas for whoever writes a store of their own, by the calls that they serve.

-- all calls: a grid is even, and stays so
pub use Rattle.tabled_grid.proofs.Grids.{IsEven-map_grid, IsEven-with_cell}
pub use Rattle.tabled_grid.proofs.Resized.{IsEven-with_cells_swapped, IsEven-with_column, IsEven-with_row, IsEven-without_column, IsEven-without_row}
pub use Rattle.tabled_grid.proofs.Blanks.{IsEven-inserts_column, IsEven-inserts_row}
-- `PeekableRecords::get_text`: the text of a cell, from the cell
pub use Rattle.tabled_grid.proofs.Grids.{cell_at-map_grid, cell_at-map_grid_some}
-- `RecordsMut::set`: the clause `texts`, from the clause `ok`; and what cells are then
pub use Rattle.tabled_grid.proofs.Grids.{cell_at-with_cell_other, cell_at-with_cell_same, map_grid-with_cell, texts_written}
-- `Resizable`: what is inserted is blank, and what the texts are then
pub use Rattle.tabled_grid.proofs.Blanks.{blank_column, blanks-push}
pub use Rattle.tabled_grid.proofs.Mapped.{texts-inserts_column, texts-inserts_row}
-- `Resizable`: without rows there are no columns
pub use Rattle.tabled_grid.proofs.Resized.{rowless-with_column, rowless-without_column, rowless-without_row}
-- rows in vectors: a row and a cell of it, and a loop that changes one row after another
pub use Rattle.tabled_grid.proofs.NestedRows.{each_long, row_cell, row_holds, row_written}
pub use Rattle.tabled_grid.proofs.RowByRow.{Changed, changed_all, changed_more, changed_next, same_cells, same_lens}
-- all cells in one list: rows cut out of it, and a cell by its place
pub use Rattle.tabled_grid.proofs.Evenness.{is_even}
pub use Rattle.tabled_grid.proofs.Flat.{chunks-joined, full_of, joined-chunks, length-joined, view_of}
pub use Rattle.tabled_grid.proofs.FlatStore.{cell_read, cell_within, cell_written}
-- lists of which each member has a property
pub use Rattle.tabled_grid.proofs.Lists.{all-append, all-drop, all-insert, all-map, all-remove, all-set, all-swap, all-take}
