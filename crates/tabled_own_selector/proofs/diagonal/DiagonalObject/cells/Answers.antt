use Rattle.std.proofs.Common.{refl}
use Rattle.tabled_select.proofs.Shown.{shown_are_given}
use Rattle.tabled_own_selector.proofs.diagonal.DiagonalObject.cells.Goals as goal

pub returns : goal.returns
returns g c = record {
  lists = (_, refl, shown_are_given _ _ _ _ tt (rw (c.min.ensures, c.count_rows.ensures.rows, c.count_columns.ensures.columns) refl));
}
