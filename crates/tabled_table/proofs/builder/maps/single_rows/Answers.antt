use Rattle.tabled_table.proofs.Common.{all_zipped_more, map_push, refl, string_bytes, texts_of}
use Rattle.tabled_table.proofs.builder.maps.single_rows.Goals as goal

pub loop-key-preserved : goal.loop-key-preserved
loop-key-preserved g c =
    rw (c.in_ok-push-2.ensures.items, map_push texts_of c.loop-key.all.items c.push.new.self)
    (all_zipped_more _ _ _ _ _ c.loop-key.invariant (record {
      key = string_bytes c.in_ok-to_string.field-0;
      is = rw (c.in_ok-push.ensures.items, c.in_ok-row.ensures.items) refl;
      prints_key = c.in_ok-to_string.ensures.ok;
    }))
