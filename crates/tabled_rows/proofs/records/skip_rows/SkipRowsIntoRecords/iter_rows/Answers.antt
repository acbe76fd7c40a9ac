use Rattle.tabled_rows.proofs.Common.{◌∙◌, ◌≡◌, DrainsIf, SourceMayBeAsked, ap, drop, skip_count, skip_source, skip_steps, subst, true}
use Rattle.tabled_rows.proofs.Gave.{skipped-along, skipped-gave}
use Rattle.tabled_rows.proofs.Listed.{gives-inside, gives-skip}
use Rattle.tabled_rows.specs.declared.records.skip_rows.SkipRowsIter.{SkipRowsIter}
use Rattle.tabled_rows.proofs.records.skip_rows.SkipRowsIntoRecords.iter_rows.Goals as goal

pub returns-clause-given : goal.returns-clause-given
returns-clause-given g c = λ rows given iter is.
    let listed = c.iter_rows.ensures.given given.0 (rw (← c.self.view_is) at given.1) c.into_iter.result c.into_iter.ensures.into_iter_gives in
    let steps = g.I.IterRows.IntoIter.Iterator.next_gives in
    let source = rw (← c.skip.ensures.source) at listed.gives in
    rw is (record {
      can = rw c.skip.ensures.source listed.can;
      ends = rw c.skip.ensures.source listed.ends;
      gives = rw (given.2, ← c.self.view_is, ← c.skip.ensures.count) (gives-inside (λ s. s.rows) (skip_steps steps) _ _ _ (gives-skip steps _ given.0 c.skip.result source));
    })

pub returns-clause-asked : goal.returns-clause-asked
returns-clause-asked g c = λ may iter is.
    let inner = c.iter_rows.ensures.asked (rw (← c.self.view_is) at may) c.into_iter.result c.into_iter.ensures.into_iter_gives in
    let steps = g.I.IterRows.IntoIter.Iterator.next_gives in
    let cell = g.I.IterColumns.IntoIter.Iterator in
    let asked = SourceMayBeAsked g.I.IterColumns.IntoIterator.into_iter_gives cell.can_next cell.remaining in
    rw is (rw c.skip.ensures.source inner.0, rw c.skip.ensures.source inner.1, skipped-along steps (λ (s : SkipRowsIter _). s.rows) asked _ (rw (← c.skip.ensures.source) at inner.2))

pub returns-clause-came : goal.returns-clause-came
returns-clause-came g c = λ rows ended gave.
    let steps = g.I.IterRows.IntoIter.Iterator.next_gives in
    let passed = skipped-gave steps (λ (s : SkipRowsIter _). s.rows) rows ended gave.0 gave.2 in
    let source : skip_source gave.0.rows ≡ c.into_iter.result = ap (λ (s : SkipRowsIter _). skip_source s.rows) gave.1 ∙ c.skip.ensures.source in
    let count : skip_count gave.0.rows ≡ c.self.inside.skip = ap (λ (s : SkipRowsIter _). skip_count s.rows) gave.1 ∙ c.skip.ensures.count in
    rw (← c.self.view_is) (
      passed.0,
      c.iter_rows.ensures.came passed.0 ended (c.into_iter.result, c.into_iter.ensures.into_iter_gives, subst (λ iter. DrainsIf steps (ended ≡ true) iter passed.0) source passed.1),
      passed.2 ∙ ap (λ n. drop n passed.0) count,
    )
