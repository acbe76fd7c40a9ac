use Rattle.tabled_spans.proofs.SpanGeometry.{midway_each}
use Rattle.tabled_spans.proofs.laws.spans_fit_midway.Goals as goal

pub returns : goal.returns
returns c = midway_each c.args._axis c.args._size
