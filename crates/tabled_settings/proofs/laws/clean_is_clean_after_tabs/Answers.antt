use Rattle.tabled_settings.proofs.Replacing.{cleaned-after_tabs}
use Rattle.tabled_settings.proofs.laws.clean_is_clean_after_tabs.Goals as goal

pub returns : goal.returns
returns c = record { same = λ text tab_size. cleaned-after_tabs tab_size text }
