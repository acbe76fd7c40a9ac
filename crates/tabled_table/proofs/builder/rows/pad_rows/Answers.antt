use Rattle.tabled_table.proofs.Common.{◌∙◌, arith, length-map, map_push, replicate, row_texts, texts_of}
use Rattle.tabled_table.proofs.Padded.{padded_to-nil, padded_to-push, take_front-append}
use Rattle.tabled_table.proofs.builder.rows.pad_rows.Goals as goal

pub loop-alloc-preserved : goal.loop-alloc-preserved
loop-alloc-preserved c =
    let was = c.loop-alloc.rows.items in
    rw (c.in_ok-push.ensures.items, map_push texts_of was c.pad.new.row, c.in_ok-pad.ensures.ok, c.new-row.ensures.items, padded_to-nil) (record {
      padded = padded_to-push c.args.count (replicate c.args.columns c.args.empty.now) (row_texts was) (omega (arith, length-map was texts_of)) ∙ c.loop-alloc.invariant.padded;
      front = take_front-append _ (row_texts was) _ _ (omega (arith, length-map c.args.rows.now.items texts_of)) c.loop-alloc.invariant.front;
    })
