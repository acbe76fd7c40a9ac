use Rattle.tabled_select.proofs.Common.{◌≡◌, AllByRecursion, HasRoom, cells_of, false, filter, firsts, length, marks_of, passes}
use Rattle.tabled_select.proofs.object.union.UnionIterIterator.next.Given as goal

abbrev pub invariant-loop-pos : goal.invariant-loop-pos
invariant-loop-pos l = record {
  within : AllByRecursion (HasRoom (marks_of l.self-inside.seen)) l.self-inside.places;
  same : cells_of (filter (passes false (marks_of l.self-inside.seen)) (firsts l.self-inside.places)) ≡ l.fn.self;
}

abbrev pub decreases-loop-pos : goal.decreases-loop-pos
decreases-loop-pos l = length l.self-inside.places
