use Rattle.tabled_settings.proofs.Common.{refl}
use Rattle.tabled_settings.proofs.replace.ReplaceAnswers.keeps.Goals as goal

pub returns : goal.returns
returns c = λ yes. (refl, c.lacks.ensures yes c.args.self.now.to.now)
