use Rattle.tabled_rows.proofs.Common.{SourceMayBeAsked, take_steps}
use Rattle.tabled_rows.proofs.Gave.{taken-along, taken-gave}
use Rattle.tabled_rows.proofs.Listed.{gives-inside, gives-take}
use Rattle.tabled_rows.specs.declared.records.limit_rows.LimitRowsIter.{LimitRowsIter}
use Rattle.tabled_rows.proofs.records.limit_rows.LimitRowsIntoRecords.iter_rows.Goals as goal

pub returns-clause-given : goal.returns-clause-given
returns-clause-given g c = λ rows given iter is.
    let listed = c.iter_rows.ensures.given given.0 (rw (← c.self.view_is) at given.1) c.into_iter.result c.into_iter.ensures.into_iter_gives in
    let steps = g.I.IterRows.IntoIter.Iterator.next_gives in
    let source = rw (← c.take.ensures.source) at listed.gives in
    rw is (record {
      can = rw c.take.ensures.source listed.can;
      ends = tt;
      gives = rw (given.2, ← c.self.view_is, ← c.take.ensures.count) (gives-inside (λ s. s.rows) (take_steps steps) _ _ _ (gives-take steps _ given.0 c.take.result source));
    })

pub returns-clause-asked : goal.returns-clause-asked
returns-clause-asked g c = λ may iter is.
    let inner = c.iter_rows.ensures.asked (rw (← c.self.view_is) at may) c.into_iter.result c.into_iter.ensures.into_iter_gives in
    let steps = g.I.IterRows.IntoIter.Iterator.next_gives in
    let cell = g.I.IterColumns.IntoIter.Iterator in
    let asked = SourceMayBeAsked g.I.IterColumns.IntoIterator.into_iter_gives cell.can_next cell.remaining in
    rw is (rw c.take.ensures.source inner.0, tt, taken-along steps (λ (s : LimitRowsIter _). s.rows) asked _ (rw (← c.take.ensures.source) at inner.2))

pub returns-clause-came : goal.returns-clause-came
returns-clause-came g c = λ rows ended gave.
    let steps = g.I.IterRows.IntoIter.Iterator.next_gives in
    let passed = taken-gave steps (λ (s : LimitRowsIter _). s.rows) rows ended _ (rw gave.1 at gave.2) in
    rw (← c.self.view_is) (
      rw c.take.ensures.count at passed.1,
      c.iter_rows.ensures.came rows _ (c.into_iter.result, c.into_iter.ensures.into_iter_gives, rw (c.take.ensures.source, c.take.ensures.count) at passed.0),
    )
