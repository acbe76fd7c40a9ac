use Rattle.tabled_select.proofs.Common.{rules}
use Rattle.tabled_select.proofs.Filtered.{Filters-from_IsFiltered}
use Rattle.tabled_select.proofs.object.iterator.filter.keep.Goals as goal

pub returns : goal.returns
returns g c = Filters-from_IsFiltered _ _ _ c.retain.ensures.filtered (λ x b q asked. (search rules, let said = asked.called.met in search rules))
