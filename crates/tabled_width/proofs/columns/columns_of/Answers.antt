use Rattle.tabled_width.proofs.PlainPieces.{plain-columns}
use Rattle.tabled_width.proofs.columns.columns_of.Goals as goal

pub returns-then-is_plain-clause-value : goal.returns-then-is_plain-clause-value
returns-then-is_plain-clause-value c = plain-columns c.args.text.now (c.is_plain.ensures.0 c.if-is_plain.true)
