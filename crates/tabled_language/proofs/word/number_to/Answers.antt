use Rattle.tabled_language.proofs.Common.{◌∙◌, ◌≢◌, get_or, rules, sym}
use Rattle.tabled_language.proofs.Numbers.{number_to-large, number_to-refused, number_to-read}
use Rattle.tabled_language.proofs.word.number_to.Goals as goal

pub returns-in_err-number : goal.returns-in_err-number
returns-in_err-number c =
    let plain : get_or c.args.text.now 0 0 ≢ 43 = search rules in
    c.from_residual.ensures ∙ number_to-refused c.args.largest c.args.text.now c.parse.result c.ranges.largest.fits c.parse.ensures.value.0 plain (sym c.in_err-number.was ∙ c.ok.ensures.value)

pub returns-then-number-largest : goal.returns-then-number-largest
returns-then-number-largest c =
    let plain : get_or c.args.text.now 0 0 ≢ 43 = search rules in
    number_to-read c.args.largest c.args.text.now c.parse.result c.in_ok-number.number c.parse.ensures.value.0 plain (sym c.in_ok-number.was ∙ c.ok.ensures.value) c.if-number-largest.true

pub returns-else-number-largest : goal.returns-else-number-largest
returns-else-number-largest c =
    let plain : get_or c.args.text.now 0 0 ≢ 43 = search rules in
    number_to-large c.args.largest c.args.text.now c.parse.result c.in_ok-number.number c.parse.ensures.value.0 plain (sym c.in_ok-number.was ∙ c.ok.ensures.value) c.if-number-largest.false
