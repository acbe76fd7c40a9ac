use Rattle.tabled_language.proofs.Common.{Some, sym}
use Rattle.std.proofs.Common.{lit<}
use Rattle.std.proofs.lemmas.Str.Pattern.{strip_prefix_char}
use Rattle.tabled_language.proofs.LineWords.{no_difference, no_operator}
use Rattle.tabled_language.proofs.line_words.operator_of.Goals as goal

pub returns-in_err-value : goal.returns-in_err-value
unfolding lib.Utf8.encode
returns-in_err-value c =
    let begun = strip_prefix_char 33 c.args.text.now (Some c.in-Some-strip_prefix.rest) c.in-Some-strip_prefix.ensures.cases (lit< tt) in
    rw c.from_residual.ensures (sym (no_difference c.args.text.now c.in-Some-strip_prefix.rest.now begun c.in_err-value.ensures.cases))

pub returns-in_err-rest : goal.returns-in_err-rest
unfolding lib.Utf8.encode
returns-in_err-rest c = rw c.from_residual-in_err-rest.ensures (sym (no_operator c.args.text.now c.in_default.ensures.cases c.in_default-strip_prefix.ensures.cases c.in_default-strip_prefix-2.ensures.cases c.in_err-rest.ensures.cases))
