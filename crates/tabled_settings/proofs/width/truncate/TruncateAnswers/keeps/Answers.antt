use Rattle.tabled_settings.proofs.Common.{refl}
use Rattle.tabled_settings.proofs.width.truncate.TruncateAnswers.keeps.Goals as goal

pub returns : goal.returns
returns c = λ yes. (refl, c.fits.ensures yes c.args.self.now.suffix.now)
