use Rattle.tabled_settings.proofs.Common.{refl}
use Rattle.tabled_settings.proofs.Glued.{split_glued}
use Rattle.tabled_settings.proofs.laws.split_is_undone_by_gluing.Goals as goal

pub returns : goal.returns
returns c = record { undone = λ old even rows columns index retained. split_glued c.args._split old _ even retained rows columns index refl }
