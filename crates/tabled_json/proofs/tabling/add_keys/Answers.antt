use Rattle.tabled_json.proofs.Common.{◌∙◌}
use Rattle.tabled_json.proofs.Taken.{members-next}
use Rattle.tabled_json.specs.Records.{member_of}
use Rattle.tabled_texts.specs.Texts.{texts_of}
use Rattle.tabled_json.proofs.tabling.add_keys.Goals as goal

pub loop-member-preserved : goal.loop-member-preserved
loop-member-preserved c =
    let with = rw c.loop-member.invariant.keys at c.in_ok-add.ensures.with in
    record {
      keys = with ∙ members-next member_of (texts_of c.args.keys.now.texts) c.args.object.now c.loop-member.member-index _ c.loop-member-test.true;
      listed = c.in_ok-add.ensures.listed;
    }
