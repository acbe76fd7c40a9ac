use Rattle.tabled_script.proofs.Common.{inr, refl}
use Rattle.tabled_script.proofs.arguments.misused.Goals as goal

pub returns-in-Ok : goal.returns-in-Ok
returns-in-Ok c = inr (record { text = c.in-Ok.text; names = c.in-Ok.ensures.ok; is = refl })
