use Rattle.std.proofs.Common.{◌∙◌, Some, ap}
use Rattle.tabled_html_reading.proofs.ReadBack.{read-alone, shown-same}
use Rattle.tabled_html_reading.proofs.laws.escaped_texts_are_read_back.Goals as goal

pub returns-clause-shown : goal.returns-clause-shown
returns-clause-shown c text = read-alone text

pub returns-clause-same : goal.returns-clause-same
returns-clause-same c text none = read-alone text ∙ ap Some (shown-same text none)
