use Rattle.tabled_table.proofs.Common.{◌∙◌, arith, length-map, map, map_push, string_bytes}
use Rattle.tabled_table.proofs.Padded.{padded_to-push, take_front-append}
use Rattle.tabled_table.proofs.builder.rows.pad.Goals as goal

pub loop-alloc-preserved : goal.loop-alloc-preserved
loop-alloc-preserved c =
    let was = c.loop-alloc.row.items in
    rw (c.in_ok-push.ensures.items, map_push string_bytes was c.new.result, c.new.ensures, c.in_ok-from_str.ensures.ok) (record {
      padded = padded_to-push c.args.columns c.args.empty.now (map string_bytes was) (omega (arith, length-map was string_bytes)) ∙ c.loop-alloc.invariant.padded;
      front = take_front-append _ (map string_bytes was) _ _ (omega (arith, length-map c.args.row.now.items string_bytes)) c.loop-alloc.invariant.front;
    })
