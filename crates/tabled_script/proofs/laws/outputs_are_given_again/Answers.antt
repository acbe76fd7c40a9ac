use Rattle.tabled_script.proofs.Again.{gives_again}
use Rattle.tabled_script.proofs.laws.outputs_are_given_again.Goals as goal

pub returns : goal.returns
returns c = gives_again
