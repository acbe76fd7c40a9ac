use Rattle.tabled_select.proofs.Common.{ap, cells_of, refl, shown_are_given}
use Rattle.tabled_select.proofs.object.segment.SegmentObject.cells.Goals as goal

pub returns : goal.returns
returns g c = record {
  lists = (_, refl, shown_are_given _ _ _ _ tt (ap cells_of (rw (c.new.ensures, c.to_range-rows.ensures.start, c.to_range-rows.ensures.end, c.to_range-columns.ensures.start, c.to_range-columns.ensures.end, c.count_rows.ensures.rows, c.count_columns.ensures.columns, ← c.self.view_is) refl)));
}
