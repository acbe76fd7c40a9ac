use Rattle.tabled_select.proofs.Common.{GivesAll-rest, IfOk-weaker, append-nil}
use Rattle.tabled_select.proofs.object.inversion.InversionCombinationObject.cells.Goals as goal

pub returns : goal.returns
returns g c = record {
  lists = IfOk-weaker c.new.result _ _
      (λ iter e. (
        iter,
        (c.in_ok-named.named.items, rw (← c.self.view_is) c.in_ok-named.ensures, rw (c.count_rows-rows.ensures.rows, c.count_columns-columns.ensures.columns, c.in_ok-all.ensures.items, append-nil) at e),
        GivesAll-rest _ _ tt,
      ))
      c.new.ensures;
}
