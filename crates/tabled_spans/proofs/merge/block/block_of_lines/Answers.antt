use Rattle.tabled_spans.proofs.Blocks.{lines_band, lines_bottom, lines_hold, lines_right}
use Rattle.tabled_spans.proofs.merge.block.block_of_lines.Goals as goal

pub returns-clause-band : goal.returns-clause-band
returns-clause-band c = λ g high wide. rw (c.in_line.ensures, c.resized.ensures.size, c.across-across.ensures) (lines_band g c.args.table high wide c.args.line c.args.many c.args.axis c.requires)

pub returns-clause-cells : goal.returns-clause-cells
returns-clause-cells c = λ g high wide. rw (c.in_line.ensures, c.resized.ensures.size, c.across-across.ensures) (lines_hold g c.args.table high wide c.args.line c.args.many c.args.axis)

pub returns-clause-bottom : goal.returns-clause-bottom
returns-clause-bottom c = rw (c.in_line.ensures, c.resized.ensures.size, c.across-across.ensures) (lines_bottom c.args.axis c.args.table c.args.line c.args.many c.requires)

pub returns-clause-right : goal.returns-clause-right
returns-clause-right c = rw (c.in_line.ensures, c.resized.ensures.size, c.across-across.ensures) (lines_right c.args.axis c.args.table c.args.line c.args.many c.requires)
