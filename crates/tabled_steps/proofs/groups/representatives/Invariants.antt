use Rattle.tabled_steps.proofs.Common.{◌++◌, ◌≡◌, into_iter_items, into_iter_len, length, representatives_of}
use Rattle.tabled_steps.proofs.groups.representatives.Given as goal

abbrev pub invariant-loop-group : goal.invariant-loop-group
invariant-loop-group l = record {
  can : goal.iterator-loop-group.can_next l.group-iterator;
  ends : goal.iterator-loop-group.is_finite l.group-iterator;
  counted : into_iter_len l.group-iterator ≡ length (into_iter_items l.group-iterator);
  so_far : l.all.items ++ representatives_of (into_iter_items l.group-iterator) ≡ representatives_of l.fn.groups.items;
}
