use Rattle.tabled_select.proofs.Common.{◌≡◌, AllByRecursion, cells_of, covers, filter, length, marks_of, passes}
use Rattle.tabled_select.proofs.object.sieve.SieveIterIterator.next.Given as goal

abbrev pub invariant-loop-pos : goal.invariant-loop-pos
invariant-loop-pos g l = record {
  within : AllByRecursion (covers l.self-inside.set) l.self-inside.places;
  same : cells_of (filter (passes l.self-inside.keeps_members (marks_of l.self-inside.set)) l.self-inside.places) ≡ l.fn.self;
}

abbrev pub decreases-loop-pos : goal.decreases-loop-pos
decreases-loop-pos g l = length l.self-inside.places
