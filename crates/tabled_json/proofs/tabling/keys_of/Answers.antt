use Rattle.tabled_json.proofs.Common.{[], ◌∙◌}
use Rattle.tabled_json.proofs.Taken.{objects-next}
use Rattle.tabled_json.specs.Records.{members_of}
use Rattle.tabled_json.proofs.tabling.keys_of.Goals as goal

pub loop-object-preserved : goal.loop-object-preserved
loop-object-preserved c =
    let with = rw (c.loop-object.invariant.keys, c.as_slice.ensures.value, c.object-item.is) at c.in_ok-add_keys.ensures.keys in
    record {
      keys = with ∙ objects-next members_of [] c.args.objects.now c.loop-object.object-index _ c.loop-object-test.true;
      listed = c.in_ok-add_keys.ensures.listed;
    }
