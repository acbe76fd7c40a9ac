use Rattle.tabled_language.proofs.Common.{◌∙◌, ◌≡◌, None, ap, length_of, option_map, sym}
use Rattle.tabled_grid.specs.declared.config.offset.Offset.TheVariants.{Start}
use Rattle.tabled_language.proofs.LineWords.{index_plain}
use Rattle.tabled_language.proofs.line_words.index_of.Goals as goal

pub returns-in_err-length_of-in-None : goal.returns-in_err-length_of-in-None
unfolding lib.Utf8.encode
returns-in_err-length_of-in-None c =
    let none : length_of c.args.text.now ≡ None = sym c.length_of-in-None.ensures ∙ c.in_err-length_of-in-None.was in
    c.from_residual-in_err-length_of-in-None.ensures ∙ sym (sym (index_plain c.args.text.now c.in-None.ensures.cases) ∙ ap (option_map Start) none)
