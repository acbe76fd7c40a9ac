use Rattle.std.proofs.Common.{ap, ◌+◌}
use Rattle.tabled_texts.specs.Texts.{rows_of}
use Rattle.tabled_script.proofs.Tables.{table_more, unjoined, unread}
use Rattle.tabled_script.proofs.inputs.rows_of_sources.Goals as goal

pub returns-in-Err-joined : goal.returns-in-Err-joined
returns-in-Err-joined c = unjoined c.args.sources.now c.loop-source.source-index c.source-item.result c.loop-source-test.true c.source-item.is c.loop-source.index c.in-Err-joined.error (rows_of c.loop-source.rows.items) (rows_of c.in-Ok.others.items) c.loop-source.invariant.rows c.in-Ok.ensures c.in-Err-joined.ensures

pub returns-in-Err : goal.returns-in-Err
returns-in-Err c = unread c.args.sources.now c.loop-source.source-index c.source-item.result c.loop-source-test.true c.source-item.is c.loop-source.index c.in-Err.error c.in-Err.ensures

pub loop-source-preserved : goal.loop-source-preserved
loop-source-preserved c = record {
  counted = ap (λ n. n + 1) c.loop-source.invariant.counted;
  rows = table_more c.args.sources.now c.loop-source.source-index c.source-item.result c.loop-source-test.true c.source-item.is (rows_of c.loop-source.rows.items) (rows_of c.in-Ok.others.items) (rows_of c.in-Ok-joined.all.items) c.loop-source.invariant.rows c.in-Ok.ensures c.in-Ok-joined.ensures;
}
