use Rattle.tabled_select.proofs.Common.{GivesAll-rest, IfOk-weaker}
use Rattle.tabled_select.proofs.object.diff.DiffCombinationObject.cells.Goals as goal

pub returns : goal.returns
returns g c = record {
  lists = IfOk-weaker c.new.result _ _
      (λ iter e. (
        iter,
        (c.in_ok-lhs.lhs.items, c.in_ok-rhs.rhs.items, rw (← c.self.view_is) c.in_ok-lhs.ensures, rw (← c.self.view_is) c.in_ok-rhs.ensures, rw (c.count_rows-rows.ensures.rows, c.count_columns-columns.ensures.columns) at e),
        GivesAll-rest _ _ tt,
      ))
      c.new.ensures;
}
