use Rattle.tabled_language.proofs.Common.{◌≡◌, length, max, rules}
use Rattle.tabled_language.proofs.ScriptChecks.{longest-more}
use Rattle.tabled_language.proofs.padding.longest.Goals as goal

pub loop-record-preserved : goal.loop-record-preserved
loop-record-preserved c =
    let most : c.max-longest.result ≡ max c.loop-record.longest (length c.record-item.result.items) = search rules in
    longest-more c.args.records.now.items c.loop-record.record-index c.loop-record.longest c.max-longest.result c.record-item.result (search rules) (search rules) c.loop-record.invariant most
