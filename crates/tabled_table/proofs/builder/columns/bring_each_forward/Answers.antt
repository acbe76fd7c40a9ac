use Rattle.tabled_table.proofs.Common.{◌∙◌, ap, arith, brought_forward, changed_all, changed_more, get_or, map, rest_more, rest_next, string_bytes, vec_len, with_items_is}
use Rattle.tabled_table.proofs.builder.columns.bring_each_forward.Goals as goal

pub bring_forward-requires-clause-within : goal.bring_forward-requires-clause-within
bring_forward-requires-clause-within c =
    let i = c.loop-row.row-index in
    let d = c.row-item.result in
    omega (arith, ap vec_len (rest_next _ _ i d c.loop-row.invariant.rest), c.deref_mut.ensures.len, c.requires.within i d (omega arith))

pub loop-row-preserved : goal.loop-row-preserved
loop-row-preserved c =
    let row = get_or c.loop-row.rows c.loop-row.row-index c.row-item.result in
    record {
      rows = changed_more _ _ _ _ _ c.row-item.result _ (omega arith) c.loop-row.invariant.rows
          (ap (map string_bytes) (with_items_is row c.bring_forward.new.row (c.bring_forward.auto.row ∙ c.deref_mut.ensures.len))
          ∙ c.bring_forward.ensures
          ∙ ap (λ cells. brought_forward c.args.marks.now c.args.kept c.args.start (map string_bytes cells)) c.deref_mut.ensures.value);
      rest = rest_more c.args.rows.now c.loop-row.rows c.loop-row.row-index _ c.loop-row.invariant.rest;
    }

pub returns : goal.returns
returns c = changed_all _ _ _ _ _ (omega arith) c.loop-row.invariant.rows
