use Rattle.tabled_language.proofs.LinesBetween.{rows-lines, rows-script}
use Rattle.tabled_language.proofs.laws.rows_are_their_lines.Goals as goal

pub returns-clause-lines : goal.returns-clause-lines
returns-clause-lines c = rows-lines

pub returns-clause-script : goal.returns-clause-script
returns-clause-script c = rows-script
