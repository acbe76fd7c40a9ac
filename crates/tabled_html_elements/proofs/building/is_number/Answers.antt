use Rattle.std.proofs.Common.{◌∙◌, sym}
use Rattle.tabled_html_elements.proofs.Pieces.{number_of_digits, some-of}
use Rattle.tabled_html_elements.proofs.building.is_number.Goals as goal

pub returns : goal.returns
returns c = c.are_digits.ensures ∙ sym (number_of_digits c.args.value.now (some-of c.args.value.now c.is_empty.result c.is_empty.ensures c.if-is_empty.false))
