use Rattle.tabled_steps.proofs.Common.{◌++◌, ◌≡◌, into_iter_items, into_iter_len, length, map, once}
use Rattle.tabled_steps.proofs.groups.with_outside.Given as goal

abbrev pub invariant-loop-entity : goal.invariant-loop-entity
invariant-loop-entity l = record {
  can : goal.iterator-loop-entity.can_next l.entity-iterator;
  ends : goal.iterator-loop-entity.is_finite l.entity-iterator;
  counted : into_iter_len l.entity-iterator ≡ length (into_iter_items l.entity-iterator);
  so_far : l.groups.items ++ map once (into_iter_items l.entity-iterator) ≡ map once l.fn.entities.items;
}
