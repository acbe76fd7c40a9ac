use Rattle.tabled_select.proofs.Common.{refl, rules}
use Rattle.tabled_select.proofs.Located.{vec-gives}
use Rattle.tabled_select.proofs.object.entity_list.EntityListObject.cells.Goals as goal

pub returns : goal.returns
returns g c = record { lists = (_, refl, vec-gives c.args.self.now.0 c.into_iter.result _ (search rules) (search rules) refl) }
