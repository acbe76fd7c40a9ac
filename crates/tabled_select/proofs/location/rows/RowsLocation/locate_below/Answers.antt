use Rattle.tabled_select.proofs.Common.{inr, refl}
use Rattle.tabled_select.proofs.Located.{range-gives}
use Rattle.tabled_select.proofs.LocatedMarks.{range-cut}
use Rattle.tabled_select.proofs.location.rows.RowsLocation.locate_below.Goals as goal

pub returns-clause-lists : goal.returns-clause-lists
returns-clause-lists g c =
    let range = c.to_range-range.ensures in (
      _,
      _,
      refl,
      inr (range-cut _ _ c.args.limit.now),
      λ iter e. rw e (range-gives _ _ _ _ (rw (range.start, c.self.view_is) refl) (rw (c.min.ensures, range.end, c.self.view_is, c.count_rows.ensures.rows) refl)),
    )
