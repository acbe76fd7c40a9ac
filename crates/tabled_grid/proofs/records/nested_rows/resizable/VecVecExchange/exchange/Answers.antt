use Rattle.tabled_grid.proofs.NestedRows.{row_cell, row_holds, row_written}
use Rattle.tabled_grid.proofs.records.nested_rows.resizable.VecVecExchange.exchange.Goals as goal

pub index_mut-requires : goal.index_mut-requires
index_mut-requires g c = row_holds c.args.self.now.items c.args.pos c.index_mut-row.result.now c.requires.well c.requires.here c.index_mut-row.ensures.value

pub index_mut-requires-2 : goal.index_mut-requires-2
index_mut-requires-2 g c = row_holds c.args.other.now.items c.args.at c.index_mut-column.result.now c.requires.other_well c.requires.there c.index_mut-column.ensures.value

pub returns : goal.returns
returns g c =
    let here = row_written c.args.self.now.items c.args.pos c.index_mut-row.result.now c.requires.well c.requires.here c.index_mut-row.ensures.value c.index_mut-2.result.now in
    let there = row_written c.args.other.now.items c.args.at c.index_mut-column.result.now c.requires.other_well c.requires.there c.index_mut-column.ensures.value c.index_mut.result.now in
    record {
      well = rw c.swap.ensures.x_after here.well;
      other_well = rw c.swap.ensures.y_after there.well;
      exchanged = record {
        here = c.index_mut.result.now;
        there = c.index_mut-2.result.now;
        was_here = row_cell c.args.self.now.items c.args.pos c.index_mut-row.result.now c.requires.well c.requires.here c.index_mut-row.ensures.value _ c.index_mut.ensures.value;
        was_there = row_cell c.args.other.now.items c.args.at c.index_mut-column.result.now c.requires.other_well c.requires.there c.index_mut-column.ensures.value _ c.index_mut-2.ensures.value;
        is_here = rw c.swap.ensures.x_after here.is;
        is_there = rw c.swap.ensures.y_after there.is;
      };
    }
