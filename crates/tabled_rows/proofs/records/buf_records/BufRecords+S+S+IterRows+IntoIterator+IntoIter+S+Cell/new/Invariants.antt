use Rattle.tabled_rows.proofs.Common.{◌-◌, ◌≡◌, ◌≤◌, IsFinite, List, SourceMayBeAsked, false, fuse_done, fuse_source, fuse_steps, map_items}
use Rattle.std.specs.Prelude.{vec_len}
use Rattle.tabled_rows.proofs.Buffered.{IsReadAhead}
use Rattle.tabled_rows.proofs.GaveBuffered.{WasRead}
use Rattle.tabled_rows.proofs.records.buf_records.BufRecords+S+S+IterRows+IntoIterator+IntoIter+S+Cell.new.Given as goal

abbrev pub invariant-loop-alloc : goal.invariant-loop-alloc
invariant-loop-alloc g l =
    (fuse_done l.rows ≡ false)
    × g.S.IterRows.IntoIter.Iterator.can_next (fuse_source l.rows)
    × IsFinite (g.S.IterRows.IntoIter.Iterator.remaining (fuse_source l.rows))
    × (vec_len l.buffer ≤ l.fn.n)
    × ((rows : List (List g.S.IntoRecords.Shown)) → g.S.IntoRecords.gives l.fn.records rows → IsReadAhead (fuse_steps g.S.IterRows.IntoIter.Iterator.next_gives) g.S.IterColumns.IntoIterator.into_iter_gives g.S.IterColumns.IntoIter.Iterator.can_next g.S.IterColumns.IntoIter.Iterator.next_gives g.S.IterColumns.IntoIter.Iterator.remaining g.S.IntoRecords.shown l.rows l.buffer.items rows)
    × WasRead g.S.IterRows.IntoIterator.into_iter_gives g.S.IterRows.IntoIter.Iterator.next_gives (SourceMayBeAsked g.S.IterColumns.IntoIterator.into_iter_gives g.S.IterColumns.IntoIter.Iterator.can_next g.S.IterColumns.IntoIter.Iterator.remaining) g.S.IterColumns.IntoIterator.into_iter_gives g.S.IterColumns.IntoIter.Iterator.next_gives (g.S.IntoRecords.may_give l.fn.records) (fuse_source l.rows) (map_items l.buffer.items)

abbrev pub decreases-loop-alloc : goal.decreases-loop-alloc
decreases-loop-alloc g l = l.fn.n - vec_len l.buffer
