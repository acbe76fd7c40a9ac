use Rattle.tabled_rows.proofs.Common.{◌∙◌, ◌≡◌, BufIterator, SourceMayBeAsked, can_come, fuse_steps, still_to_come}
use Rattle.tabled_rows.specs.declared.records.buf_records.BufRecordsIter.{BufRecordsIter}
use Rattle.tabled_rows.proofs.Buffered.{gives-buffered}
use Rattle.tabled_rows.proofs.GaveBuffered.{buffered-along, buffered-gave}
use Rattle.tabled_rows.proofs.records.buf_records.BufRecordsIntoIterCellIntoRecords.iter_rows.Goals as goal

pub returns-clause-given : goal.returns-clause-given
returns-clause-given g c = λ rows given iter same.
    let listed = rw (← c.self.view_is) at given.1 in
    let row = g.S.IterColumns.IntoIterator.into_iter_gives in
    let cell = g.S.IterColumns.IntoIter.Iterator in
    rw same (record {
      can = listed.can;
      ends = listed.ends;
      gives = rw (given.2, ← c.self.view_is) (gives-buffered (fuse_steps g.S.IterRows.IntoIter.Iterator.next_gives) row cell.can_next cell.next_gives cell.remaining g.S.IntoRecords.shown (λ (walk : BufRecordsIter _ _). walk.buffer) (λ walk. walk.rows) c.self.inside.buffer given.0 _ c.into_iter.ensures.rest c.into_iter.ensures.len listed.gives);
    })

pub returns-clause-asked : goal.returns-clause-asked
returns-clause-asked g c = λ may iter is.
    let asked = rw (← c.self.view_is) at may in
    let row = g.S.IterColumns.IntoIterator.into_iter_gives in
    let cell = g.S.IterColumns.IntoIter.Iterator in
    let row_asked = SourceMayBeAsked row cell.can_next cell.remaining in
    let given_asked = SourceMayBeAsked (λ (s : BufIterator _ _) r. r ≡ s) (can_come cell.can_next) (still_to_come cell.remaining) in
    rw is (
      asked.0,
      asked.1,
      buffered-along (fuse_steps g.S.IterRows.IntoIter.Iterator.next_gives) row (λ (walk : BufRecordsIter _ _). walk.buffer) (λ walk. walk.rows) row_asked given_asked (λ cells it same. rw same (tt, tt)) (λ row cells may became it same. rw same (may cells became)) c.self.inside.buffer.items _ (record { items = λ h. c.into_iter.ensures.rest; long = c.into_iter.ensures.len ∙ c.self.inside.buffer.ok.0 }) asked.2,
    )

pub returns-clause-came : goal.returns-clause-came
returns-clause-came g c = λ rows ended gave.
    let row = g.S.IterColumns.IntoIterator.into_iter_gives in
    let steps = fuse_steps g.S.IterRows.IntoIter.Iterator.next_gives in
    rw (← c.self.view_is) (buffered-gave steps row (λ (walk : BufRecordsIter _ _). walk.buffer) (λ walk. walk.rows) rows ended c.self.inside.buffer.items _ (record { items = λ h. c.into_iter.ensures.rest; long = c.into_iter.ensures.len ∙ c.self.inside.buffer.ok.0 }) (rw gave.1 at gave.2))
