use Rattle.tabled_settings.proofs.Parted.{replaced-itself}
use Rattle.tabled_settings.proofs.laws.replaced_by_itself_is_as_it_was.Goals as goal

pub returns : goal.returns
returns c = replaced-itself
