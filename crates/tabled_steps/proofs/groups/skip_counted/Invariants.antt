use Rattle.tabled_steps.proofs.Common.{◌≡◌, drop, into_iter_items, into_iter_len, length}
use Rattle.tabled_steps.proofs.GroupSteps.{PassedGroups}
use Rattle.tabled_steps.proofs.groups.skip_counted.Given as goal

abbrev pub invariant-loop-group : goal.invariant-loop-group
invariant-loop-group l = record {
  can : goal.iterator-loop-group.can_next l.group-iterator;
  ends : goal.iterator-loop-group.is_finite l.group-iterator;
  counted : into_iter_len l.group-iterator ≡ length (into_iter_items l.group-iterator);
  so_far : PassedGroups drop l.fn.n l.fn.groups.items l.ahead (into_iter_items l.group-iterator) l.left.items;
}
