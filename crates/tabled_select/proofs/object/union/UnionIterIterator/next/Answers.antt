use Rattle.tabled_select.proofs.Common.{ap, length, marks_of, rules}
use Rattle.tabled_select.proofs.MarkedPlaces.{room-kept}
use Rattle.tabled_select.proofs.Uniting.{fresh-new, fresh-seen}
use Rattle.tabled_select.proofs.object.union.UnionIterIterator.next.Goals as goal

pub returns-then-insert-clause-steps : goal.returns-then-insert-clause-steps
returns-then-insert-clause-steps c = rw c.from.ensures (fresh-new (marks_of c.loop-pos.self-inside.seen) (marks_of c.insert.new.self) _ c.insert.ensures.set _ _ _ c.in-Some.ensures.steps c.loop-pos.invariant.same (search rules))

pub returns-then-insert-clause-goes : goal.returns-then-insert-clause-goes
returns-then-insert-clause-goes c =
    let shorter = ap length (returns-then-insert-clause-steps c) in search rules

pub loop-pos-preserved : goal.loop-pos-preserved
loop-pos-preserved c = record {
  within = room-kept (marks_of c.loop-pos.self-inside.seen) _ _ _ c.insert.ensures.set _ (rw c.in-Some.ensures.steps at c.loop-pos.invariant.within).1;
  same = fresh-seen (marks_of c.loop-pos.self-inside.seen) _ _ c.insert.ensures.set _ _ _ c.in-Some.ensures.steps c.loop-pos.invariant.same (search rules);
}
