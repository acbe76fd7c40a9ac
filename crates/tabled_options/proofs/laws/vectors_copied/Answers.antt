use Rattle.tabled_options.proofs.Copied.{zip_alike}
use Rattle.tabled_options.proofs.laws.vectors_copied.Goals as goal

pub returns : goal.returns
returns g c = record { vector = λ each copy copied. zip_alike g.T.Clone.is_clone g.T.TableOption.is_like c.args._options.now.items copy.items each copied.0 }
