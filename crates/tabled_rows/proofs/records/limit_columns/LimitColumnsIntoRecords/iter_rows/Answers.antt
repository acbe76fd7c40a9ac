use Rattle.tabled_rows.proofs.Common.{◌≡◌, Shows, SourceMayBeAsked, Take, at_most, count_min, refl, take_count, take_source}
use Rattle.tabled_rows.specs.declared.records.limit_columns.LimitColumnsIter.{LimitColumnsIter}
use Rattle.tabled_rows.proofs.Gave.{limited-along, limited-gave}
use Rattle.tabled_rows.proofs.Listed.{gives-limited}
use Rattle.tabled_rows.proofs.records.limit_columns.LimitColumnsIntoRecords.iter_rows.Goals as goal

pub returns-clause-given : goal.returns-clause-given
returns-clause-given g c = λ rows given iter is.
    let listed = c.iter_rows.ensures.given given.0 (rw (← c.self.view_is) at given.1) c.into_iter.result c.into_iter.ensures.into_iter_gives in
    let row = g.I.IterColumns.IntoIterator.into_iter_gives in
    let cell = g.I.IterColumns.IntoIter.Iterator in
    rw is (record {
      can = listed.can;
      ends = listed.ends;
      gives = rw (given.2, ← c.self.view_is) (gives-limited g.I.IterRows.IntoIter.Iterator.next_gives row cell.can_next cell.next_gives cell.remaining (Shows g.I.IntoRecords.shown) (λ (rows : LimitColumnsIter _). rows.rows) (λ rows. rows.limit) c.self.inside.limit given.0 _ listed.gives refl);
    })

pub returns-clause-asked : goal.returns-clause-asked
returns-clause-asked g c = λ may iter is.
    let inner = c.iter_rows.ensures.asked (rw (← c.self.view_is) at may) c.into_iter.result c.into_iter.ensures.into_iter_gives in
    let row = g.I.IterColumns.IntoIterator.into_iter_gives in
    let cell = g.I.IterColumns.IntoIter.Iterator in
    let row_asked = SourceMayBeAsked row cell.can_next cell.remaining in
    let limited_asked = SourceMayBeAsked (λ (s : Take _) r. r ≡ s) (λ s. cell.can_next (take_source s)) (λ s. count_min (at_most (take_count s)) (cell.remaining (take_source s))) in
    rw is (inner.0, inner.1, limited-along g.I.IterRows.IntoIter.Iterator.next_gives row (λ (rows : LimitColumnsIter _). rows.rows) (λ rows. rows.limit) row_asked limited_asked _ (λ row cells asked limits it same. rw same ((asked _ limits.0).0, tt)) inner.2)

pub returns-clause-came : goal.returns-clause-came
returns-clause-came g c = λ rows ended gave.
    let row = g.I.IterColumns.IntoIterator.into_iter_gives in
    let passed = limited-gave g.I.IterRows.IntoIter.Iterator.next_gives row (λ (rows : LimitColumnsIter _). rows.rows) (λ rows. rows.limit) c.self.inside.limit rows ended _ refl (rw gave.1 at gave.2) in
    rw (← c.self.view_is) (
      passed.0,
      c.iter_rows.ensures.came passed.0 ended (c.into_iter.result, c.into_iter.ensures.into_iter_gives, passed.1),
      passed.2,
    )
