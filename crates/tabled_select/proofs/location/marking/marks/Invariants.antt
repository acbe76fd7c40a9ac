use Rattle.tabled_select.proofs.Common.{TellsLocated}
use Rattle.tabled_select.proofs.location.marking.marks.Given as goal

abbrev pub invariant-loop-index : goal.invariant-loop-index
invariant-loop-index g l = record {
  can : (goal.iterator-loop-index g).can_next l.index-iterator;
  ends : (goal.iterator-loop-index g).is_finite l.index-iterator;
  told : TellsLocated l.yielded l.fn.count l.marks.items;
}
