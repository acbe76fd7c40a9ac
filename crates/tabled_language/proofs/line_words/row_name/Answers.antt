use Rattle.tabled_language.proofs.Common.{◌∙◌, ap}
use Rattle.tabled_language.proofs.LineWords.{where_lines}
use Rattle.tabled_language.specs.Parsing.{is_tested}
use Rattle.tabled_language.proofs.line_words.row_name.Goals as goal

pub returns-in_ok-value-in-Where : goal.returns-in_ok-value-in-Where
returns-in_ok-value-in-Where c =
    let test = c.in-Where.test in
    rw c.in-Where.is (where_lines c.in_ok-title-in-Where.title c.text_test.result test.title.now (is_tested test.operator test.value.now) c.in_ok-title-in-Where.ensures.ok (c.text_test.ensures ∙ ap (is_tested test.operator) c.in_ok-value-in-Where.ensures.ok))
