use Rattle.tabled_select.proofs.Inverted.{difference-as-intersection}
use Rattle.tabled_select.proofs.laws.difference_is_intersection_with_inversion.Goals as goal

pub returns : goal.returns
returns c = difference-as-intersection c.args._entities.now c.args._others.now c.args._rows c.args._columns
