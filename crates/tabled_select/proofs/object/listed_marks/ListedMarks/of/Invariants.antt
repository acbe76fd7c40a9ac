use Rattle.tabled_select.proofs.Common.{◌≡◌, Position, Some, few_marks, flat, if◌then◌else◌, is_among}
use Rattle.tabled_select.proofs.MarkedPlaces.{given}
use Rattle.tabled_select.proofs.object.listed_marks.ListedMarks.of.Given as goal

abbrev pub invariant-loop-pos : goal.invariant-loop-pos
invariant-loop-pos l = record {
  can : goal.iterator-loop-pos.can_next l.pos-iterator;
  ends : goal.iterator-loop-pos.is_finite l.pos-iterator;
  given : (p : Position) → (if is_among l.pos-iterator p then Some l.fn.mark else few_marks l.set p) ≡ given (flat l.fn.entities.items l.fn.rows l.fn.columns) l.fn.mark p;
}
