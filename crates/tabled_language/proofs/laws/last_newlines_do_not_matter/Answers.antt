use Rattle.tabled_language.proofs.EndedLines.{last_newline}
use Rattle.tabled_language.proofs.laws.last_newlines_do_not_matter.Goals as goal

pub returns : goal.returns
returns c = last_newline
