use Rattle.tabled_select.proofs.Common.{refl}
use Rattle.tabled_select.proofs.Located.{vec-gives}
use Rattle.tabled_select.proofs.object.iterator.filter.FilterObjectObject.cells.Goals as goal

pub returns : goal.returns
returns g c = record {
  lists = (
    c.keep.new.entities.items,
    (c.in_ok-all.all.items, rw (← c.self.view_is) c.in_ok-all.ensures, rw (← c.self.view_is) c.keep.ensures),
    vec-gives c.keep.new.entities _ _ c.into_iter.ensures.rest c.into_iter.ensures.len refl,
  );
}
