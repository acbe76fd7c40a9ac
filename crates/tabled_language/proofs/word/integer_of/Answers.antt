use Rattle.tabled_language.proofs.Common.{◌∙◌, ◌≡◌, None, number_of, sym}
use Rattle.tabled_language.proofs.Numbers.{integer_of-unsigned}
use Rattle.tabled_language.proofs.word.integer_of.Goals as goal

pub returns-in_err-number-in-None : goal.returns-in_err-number-in-None
unfolding lib.Utf8.encode
returns-in_err-number-in-None c =
    let none : number_of c.args.text.now ≡ None = sym c.number_of-in-None.ensures ∙ c.in_err-number-in-None.was in
    c.from_residual-in_err-number-in-None.ensures ∙ sym (integer_of-unsigned c.args.text.now c.in-None.ensures.cases none)
