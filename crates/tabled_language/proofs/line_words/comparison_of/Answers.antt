use Rattle.tabled_language.proofs.Common.{◌∙◌}
use Rattle.tabled_language.proofs.LineWords.{comparison_plain}
use Rattle.tabled_language.proofs.line_words.comparison_of.Goals as goal

pub returns-in-None : goal.returns-in-None
unfolding lib.Utf8.encode
returns-in-None c = c.number_test-in-None.ensures ∙ comparison_plain c.args.strict c.args.equal c.args.rest.now c.in-None.ensures.cases
