use Rattle.tabled_steps.proofs.Common.{refl}
use Rattle.tabled_select.proofs.Located.{vec-gives}
use Rattle.tabled_steps.proofs.select.SelectObject.cells.Goals as goal

pub returns : goal.returns
returns g c =
    let listed = c.in_ok-list.field-0 in
    record { lists = (listed.items, c.in_ok-list.ensures, vec-gives listed c.into_iter.result listed.items c.into_iter.ensures.rest c.into_iter.ensures.len refl) }
