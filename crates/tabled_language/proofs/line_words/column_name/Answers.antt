use Rattle.tabled_language.proofs.Common.{◌∙◌, List, Option, ap, ℕ}
use Rattle.tabled_select.specs.Locators.{columns_with}
use Rattle.tabled_language.proofs.LineWords.{columns_plain}
use Rattle.tabled_language.specs.LineNames.{columns_by}
use Rattle.tabled_language.proofs.line_words.column_name.Goals as goal

pub returns-in-Some-lines_of : goal.returns-in-Some-lines_of
unfolding lib.Utf8.encode
returns-in-Some-lines_of c = c.column_of_lines.ensures ∙ ap (λ (told : Option (ℕ → List ℕ)). columns_by told c.args.word.now) c.in-Some-lines_of.ensures ∙ columns_plain c.args.word.now c.in_default.ensures.cases

pub returns-in_ok-from_str-in-None : goal.returns-in_ok-from_str-in-None
unfolding lib.Utf8.encode
returns-in_ok-from_str-in-None c = ap columns_with c.in_ok-from_str-in-None.ensures.ok ∙ ap (λ (told : Option (ℕ → List ℕ)). columns_by told c.args.word.now) c.in-None.ensures ∙ columns_plain c.args.word.now c.in_default.ensures.cases
