use Rattle.tabled_select.proofs.Common.{refl}
use Rattle.tabled_select.proofs.Located.{vec-gives}
use Rattle.tabled_select.proofs.location.by_condition.ByConditionObject.cells.Goals as goal

pub returns : goal.returns
returns g c = record {
  lists = (
    _,
    (c.in_ok-search.ensures.0, rw (← c.self.view_is) c.in_ok-search.ensures.1, refl),
    vec-gives c.in_ok-search.field-0 _ _ c.into_iter.ensures.rest c.into_iter.ensures.len c.in_ok-search.ensures.2,
  );
}
