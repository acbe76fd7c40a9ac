use Rattle.tabled_spans.proofs.Common.{◌∙◌, sym}
use Rattle.tabled_spans.proofs.Blocks.{back_in}
use Rattle.tabled_spans.proofs.merge.runs.before.Goals as goal

pub returns-clause-some : goal.returns-clause-some
returns-clause-some c = rw (c.in_line.ensures, c.line_of-line.ensures) (back_in c.args.axis c.args.block c.args.pos c.requires (λ e. c.if-line-line_of.false (c.line_of-line.ensures ∙ e ∙ sym c.line_of.ensures)))
