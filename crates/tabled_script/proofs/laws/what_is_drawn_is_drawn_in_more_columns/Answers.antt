use Rattle.tabled_script.proofs.Narrowed.{drawn-in-more}
use Rattle.tabled_script.proofs.laws.what_is_drawn_is_drawn_in_more_columns.Goals as goal

pub returns : goal.returns
returns c = λ n more style m g le drawn. drawn-in-more style m g n more le drawn
