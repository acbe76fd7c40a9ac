use Rattle.tabled_language.proofs.Common.{◌∙◌, sym}
use Rattle.tabled_language.proofs.Separated.{nowhere_if_none}
use Rattle.tabled_language.proofs.parts.place_in_part.Goals as goal

pub returns-then-count_few-eq0 : goal.returns-then-count_few-eq0
returns-then-count_few-eq0 c = nowhere_if_none c.args.at c.args.bytes.now (sym c.count_few.ensures ∙ c.if-count_few-eq0.true)
