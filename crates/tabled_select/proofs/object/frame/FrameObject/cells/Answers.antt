use Rattle.tabled_select.proofs.Common.{ap, cells_of, refl, shown_are_given}
use Rattle.tabled_select.proofs.Walks.{frame-begins}
use Rattle.tabled_select.proofs.object.frame.FrameObject.cells.Goals as goal

pub returns : goal.returns
returns g c =
    let grid = g.I.GridStore.grid c.args.records.now in
    record { lists = (_, refl, shown_are_given _ _ _ _ tt (ap cells_of (rw (c.count_rows.ensures.rows, c.count_columns.ensures.columns) (frame-begins grid.rows grid.columns)))) }
