use Rattle.tabled_language.proofs.LinesBetween.{words-line}
use Rattle.tabled_language.proofs.laws.words_are_their_line.Goals as goal

pub returns : goal.returns
returns c = words-line
