use Rattle.tabled_settings.proofs.Replacing.{cleaned-clean}
use Rattle.tabled_settings.proofs.laws.clean_leaves_no_control_character.Goals as goal

pub returns : goal.returns
returns c = record { clean = λ text tab_size. cleaned-clean tab_size text }
