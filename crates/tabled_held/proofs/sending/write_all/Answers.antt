use Rattle.tabled_held.proofs.SentBytes.{written-more}
use Rattle.tabled_held.proofs.sending.write_all.Goals as goal

pub loop-rest-preserved : goal.loop-rest-preserved
loop-rest-preserved g c =
    let before = c.loop-rest.invariant.sent in
    record {
      sent = written-more _ _ _ c.args.bytes.now before.0 c.loop-rest.rest.now c.in_ok-count.count before.1 before.2 c.in_ok-count.ensures.bytes;
    }
