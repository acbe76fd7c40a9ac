use Rattle.tabled_steps.proofs.RepresentedPlaces.{flat-represented}
use Rattle.tabled_steps.proofs.select.Select.names_none.Goals as goal

pub returns : goal.returns
returns g c =
    let same = flat-represented g.R.Cell.CellText.text_of c.args.self.now (g.R.GridStore.grid c.args.records.now) c.in_ok-all.all.items c.in_ok-all.ensures in
    rw (← same) (rw (c.deref.ensures.value, c.count_rows.ensures.rows, c.count_columns.ensures.columns) at c.name_no_cell.ensures)
