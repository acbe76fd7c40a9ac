use Rattle.tabled_script.proofs.Narrowed.{undrawn-wider, wider-undrawn}
use Rattle.tabled_script.proofs.laws.only_what_cannot_be_cut_is_not_drawn.Goals as goal

pub returns : goal.returns
returns c = λ n style m g. (undrawn-wider style m g n, λ wider. wider-undrawn style m g n wider.0 wider.1)
