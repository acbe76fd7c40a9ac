use Rattle.tabled_settings.proofs.SwapsFound.{range_more}
use Rattle.tabled_settings.proofs.arranged.all_indexes.Goals as goal

pub loop-index-preserved : goal.loop-index-preserved
loop-index-preserved c = let more = range_more c.loop-index.index in cc c.in_ok-push.ensures.items
