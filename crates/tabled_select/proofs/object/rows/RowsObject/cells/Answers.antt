use Rattle.tabled_select.proofs.Common.{refl, shown_are_given}
use Rattle.tabled_select.proofs.object.rows.RowsObject.cells.Goals as goal

pub returns : goal.returns
returns g c = record {
  lists = (_, refl, shown_are_given _ _ _ _ tt (rw (c.to_range-rows.ensures.start, c.to_range-rows.ensures.end, c.count_rows.ensures.rows, ← c.self.view_is) refl));
}
