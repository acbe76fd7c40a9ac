use Rattle.tabled_steps.proofs.EvenStates.{even_after, even_after_all}
use Rattle.tabled_steps.proofs.laws.formulas_keep_tables_even.Goals as goal

pub returns : goal.returns
returns c = record { one = even_after; all = even_after_all }
