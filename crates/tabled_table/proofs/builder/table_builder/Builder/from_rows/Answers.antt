use Rattle.tabled_table.proofs.Common.{[], ◌++◌, ◌∙◌, ◌∷◌, All-pop, Builder, MayBeAsked, Some, all_zipped_more, ap, length, map, refl, string_bytes, sym, with_record}
use Rattle.std.proofs.iter.Next.{Yields-more}
use Rattle.tabled_table.proofs.Uneven.{from_uneven-push}
use Rattle.tabled_table.proofs.builder.table_builder.Builder.from_rows.Goals as goal

pub loop-row-init : goal.loop-row-init
loop-row-init g c = ([], tt, c.new-builder.ensures)

pub push_record-requires : goal.push_record-requires
push_record-requires g c =
    let it = c.into_iter-row-iterator in
    let xs = c.loop-row.yielded in
    let x = c.in-Some.row in
    let more = Yields-more g.I.IntoIter.Iterator.next_gives it.result xs c.loop-row.row-iterator x c.next.new.self c.loop-row.yielded_by c.in-Some.ensures.steps in
    record { asked = (All-pop (MayBeAsked g.R.IntoIterator g.R.IntoIter.Iterator) (xs ++ x ∷ []) xs (Some x) refl ((c.requires.asked it.result it.ensures.into_iter_gives).2 (xs ++ x ∷ []) c.next.new.self more)).1 }

pub loop-row-preserved : goal.loop-row-preserved
loop-row-preserved g c =
    let so_far = c.loop-row.invariant in
    let gave = c.in_ok-push_record.ensures.ok in
    let row = map string_bytes gave.1 in
    (so_far.0 ++ row ∷ [], all_zipped_more _ _ _ _ _ so_far.1 (gave.0, gave.1, gave.2, gave.3, refl), gave.4 ∙ ap (λ (b : Builder). with_record b (length b.rows) row) so_far.2 ∙ sym (from_uneven-push so_far.0 row))

pub returns : goal.returns
returns g c =
    let so_far = c.loop-row.invariant in
    let it = c.into_iter-row-iterator in
    record { ok = (it.result, c.loop-row.yielded, so_far.0, it.ensures.into_iter_gives, (c.next.new.self, (c.loop-row.row-iterator, c.loop-row.yielded_by, c.in-None.ensures.steps)), so_far.1, so_far.2) }
