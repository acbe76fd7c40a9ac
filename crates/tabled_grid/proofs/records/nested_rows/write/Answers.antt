use Rattle.tabled_grid.proofs.NestedRows.{row_holds, row_written}
use Rattle.tabled_grid.proofs.records.nested_rows.write.Goals as goal

pub index_mut-requires : goal.index_mut-requires
index_mut-requires g c = row_holds c.args.rows.now.items c.args.pos c.index_mut-row.result.now c.requires.even c.requires.inside c.index_mut-row.ensures.value

pub returns : goal.returns
returns g c = (row_written c.args.rows.now.items c.args.pos c.index_mut-row.result.now c.requires.even c.requires.inside c.index_mut-row.ensures.value c.args.cell).is
