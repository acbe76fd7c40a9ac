use Rattle.tabled_select.proofs.Common.{refl}
use Rattle.tabled_select.proofs.Located.{range-gives}
use Rattle.tabled_select.proofs.location.columns.ColumnsLocation.locate.Goals as goal

pub returns-clause-lists : goal.returns-clause-lists
returns-clause-lists g c = (_, refl, λ iter e. rw e (range-gives _ _ _ _ (rw (c.to_range.ensures.start, c.self.view_is) refl) (rw (c.to_range.ensures.end, c.self.view_is, c.count_columns.ensures.columns) refl)))
