use Rattle.tabled_settings.proofs.TextsKept.{no_text_lost}
use Rattle.tabled_settings.proofs.laws.split_loses_no_text.Goals as goal

pub returns : goal.returns
returns c = record { kept = λ old even. no_text_lost c.args._split old even }
