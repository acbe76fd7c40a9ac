use Rattle.tabled_select.proofs.Common.{cells_of, option_to_list, refl, rules, shown_are_given}
use Rattle.tabled_select.proofs.location.by_value.ByValueObject.cells.Goals as goal

pub returns : goal.returns
returns g c = record {
  lists = (
    cells_of (option_to_list c.held_last-held.result),
    (c.in_ok-all.all.items, option_to_list c.held_last-held.result, rw (← c.self.view_is) c.in_ok-all.ensures, rw (← c.self.view_is) c.held_last-held.ensures, refl),
    shown_are_given _ _ _ _ tt (search rules),
  );
}
