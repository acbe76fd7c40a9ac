use Rattle.tabled_language.proofs.Common.{◌∙◌, ap, sym}
use Rattle.tabled_settings.specs.Sorted.{first_named}
use Rattle.tabled_language.proofs.LineWords.{column_plain}
use Rattle.tabled_language.proofs.line_words.sort_column.Goals as goal

pub returns-in_ok-from_str-in-None : goal.returns-in_ok-from_str-in-None
unfolding lib.Utf8.encode
returns-in_ok-from_str-in-None c = ap first_named c.in_ok-from_str-in-None.ensures.ok ∙ column_plain c.args.word.now c.in_default.ensures.cases (sym c.in-None.ensures)
