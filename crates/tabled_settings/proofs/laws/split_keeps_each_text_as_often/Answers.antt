use Rattle.tabled_settings.proofs.TextsKept.{each_as_often}
use Rattle.tabled_settings.proofs.laws.split_keeps_each_text_as_often.Goals as goal

pub returns : goal.returns
returns c = record { kept = λ old p even. each_as_often c.args._split old p even }
