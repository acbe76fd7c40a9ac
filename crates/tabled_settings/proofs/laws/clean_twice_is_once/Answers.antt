use Rattle.tabled_settings.proofs.Replacing.{clean-same, cleaned-clean}
use Rattle.tabled_settings.proofs.laws.clean_twice_is_once.Goals as goal

pub returns : goal.returns
returns c = record { same = λ text tab_size second. clean-same second _ (cleaned-clean tab_size text) }
