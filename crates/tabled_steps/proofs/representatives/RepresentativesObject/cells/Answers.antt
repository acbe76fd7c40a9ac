use Rattle.tabled_steps.proofs.Common.{[], ◌∷◌, map, once, refl}
use Rattle.tabled_steps.proofs.GoneOver.{gives_items}
use Rattle.tabled_steps.proofs.Outside.{each_once}
use Rattle.tabled_steps.proofs.representatives.RepresentativesObject.cells.Goals as goal

pub returns-in_ok-representatives-in-None : goal.returns-in_ok-representatives-in-None
returns-in_ok-representatives-in-None g c =
    let entities = c.in_ok-representatives-in-None.field-0.items in
    record { lists = (entities, c.in_ok-representatives-in-None.ensures, record { can = tt; ends = tt; gives = rw c.each.ensures (gives_items entities) }) }

pub returns-in-Some : goal.returns-in-Some
returns-in-Some g c =
    let grid = g.R.GridStore.grid c.args.records.now in
    let one = c.in-Some.entity ∷ [] in
    record { lists = (one, (map once one, rw (c.in-Some.ensures.selected _) (each_once grid.rows grid.columns one), refl), record { can = tt; ends = tt; gives = rw c.one.ensures (gives_items one) }) }
