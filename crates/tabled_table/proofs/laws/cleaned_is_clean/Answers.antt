use Rattle.tabled_table.proofs.CleanedLaws.{IsClean-cleaned}
use Rattle.tabled_table.proofs.laws.cleaned_is_clean.Goals as goal

pub returns : goal.returns
returns c = IsClean-cleaned c.args._builder.now
