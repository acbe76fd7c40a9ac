use Rattle.tabled_settings.proofs.Common.{◌∙◌, ◌≡◌, count_of}
use Rattle.tabled_settings.proofs.Reversed.{reversed_done}
use Rattle.tabled_settings.proofs.LineReads.{counted}
use Rattle.tabled_settings.proofs.MirroredSpans.{reversal_carried}
use Rattle.tabled_settings.proofs.reverse.ReverseTableOptionSpannedConfig.change.Goals as goal

pub returns-clause-ok : goal.returns-clause-ok
returns-clause-ok g c =
    let end = c.in-Some.ensures.some in
    let axis = c.args.self.axis in
    let grid = g.R.GridStore.grid c.args.records.now in
    let count : c.count_of-count.result ≡ count_of axis grid.rows grid.columns = rw (c.shape_of-table.ensures.rows, c.shape_of-table.ensures.columns) at c.count_of-count.ensures in (
      reversed_done _ _ _ _ _ (count ∙ counted axis grid) _ _ end.0 end.2 c.reverse.ensures.reversed,
      reversal_carried axis c.args.self.start c.args.self.limit grid.rows grid.columns _ _ c.in-Some.end c.count_of-count.result _ _ c.shape_of-table.ensures.rows c.shape_of-table.ensures.columns count end.0 end.1 end.2 (rw c.in_ok-fitting.ensures.table at c.carry_along.ensures.carried),
    )
