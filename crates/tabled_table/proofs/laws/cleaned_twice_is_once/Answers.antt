use Rattle.tabled_table.proofs.CleanedLaws.{cleaned-cleaned}
use Rattle.tabled_table.proofs.laws.cleaned_twice_is_once.Goals as goal

pub returns : goal.returns
returns c = cleaned-cleaned c.args._builder.now
