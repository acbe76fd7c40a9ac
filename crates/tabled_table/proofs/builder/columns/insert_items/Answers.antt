use Rattle.tabled_table.proofs.Common.{◌+◌, ◌∙◌, ◌∷◌, ◌≡◌, all_done, ap, arith, drop, drop-drop, get_or, into_iter_items, map, map-insert, on_err, one_more, refl, rest_more, rest_next, row_texts, same_lens, string_bytes, sym, texts_kept, texts_of, with_items}
use Rattle.tabled_table.proofs.builder.columns.insert_items.Goals as goal

pub insert-requires : goal.insert-requires
insert-requires c =
    let i = c.loop-row.row-index in
    let d = c.row-item.result in
    rw (rest_next _ _ i d c.loop-row.invariant.rest, same_lens _ _ i d c.in_ok-reserve_each.ensures.cells) (c.requires.within i d (omega (arith, c.reserve_each.auto.rows)))

pub unwrap-requires : goal.unwrap-requires
unwrap-requires c = c.insert.ensures.succeeds (rw (rest_next _ _ c.loop-row.row-index c.row-item.result c.loop-row.invariant.rest) (c.in_ok-reserve_each.ensures.room _ _ (omega arith)))

pub loop-row-preserved : goal.loop-row-preserved
loop-row-preserved c =
    let so_far = c.loop-row.invariant in
    let i = c.loop-row.row-index in
    let d = c.row-item.result in
    let j = c.args.j in
    let item = c.unwrap-item.result in
    let left = into_iter_items c.next.new.self in
    let taken : into_iter_items c.loop-row.items ≡ item ∷ left = rw c.unwrap-item.ensures at c.next.ensures.items in
    let put = ap (map string_bytes) (rw c.unwrap.ensures at c.insert.ensures.items) ∙ map-insert string_bytes (get_or c.loop-row.rows i d).items j item in
    record {
      rows = one_more texts_of (λ rows. with_items j (row_texts rows) (map string_bytes (item ∷ left))) (λ rows. with_items j (row_texts rows) (map string_bytes left)) c.loop-row.rows i d c.insert.new.self (omega arith)
          (ap (λ row. row ∷ with_items j (row_texts (drop (i + 1) c.loop-row.rows)) (map string_bytes left)) (sym put))
          ∙ rw taken at so_far.rows;
      rest = rest_more c.reserve_each.new.rows c.loop-row.rows i c.insert.new.self so_far.rest;
      items = ap (drop 1) (sym taken ∙ so_far.items) ∙ drop-drop 1 i c.args.items.items;
    }

pub returns-in_err-reserve_each-clause-err : goal.returns-in_err-reserve_each-clause-err
returns-in_err-reserve_each-clause-err c = on_err _ (texts_kept _ _ c.in_err-reserve_each.ensures.cells)

pub returns-clause-ok : goal.returns-clause-ok
returns-clause-ok c =
    let items = map string_bytes (into_iter_items c.loop-row.items) in
    rw (← texts_kept _ _ c.in_ok-reserve_each.ensures.cells) (sym (all_done texts_of (λ rows. with_items c.args.j (row_texts rows) items) c.loop-row.rows c.loop-row.row-index (omega arith) refl) ∙ c.loop-row.invariant.rows)
