use Rattle.tabled_options.proofs.Keeps.{keeps_all}
use Rattle.tabled_options.proofs.laws.vectors_keep.Goals as goal

pub returns : goal.returns
returns g c = record { vector = keeps_all g.P.Property.holds g.T.TableOption.does g.T.TableOption.leaves c.args._options.now.items }
