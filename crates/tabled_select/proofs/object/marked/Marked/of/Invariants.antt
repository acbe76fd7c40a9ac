use Rattle.tabled_select.proofs.Common.{◌||◌, ◌≡◌, AllByRecursion, Entity, HasRoom, Position, all_marks, flat, has, is_among}
use Rattle.std.specs.Prelude.{List}
use Rattle.tabled_select.proofs.object.marked.Marked.of.Given as goal

abbrev pub invariant-loop-pos : goal.invariant-loop-pos
invariant-loop-pos l = record {
  can : goal.iterator-loop-pos.can_next l.pos-iterator;
  ends : goal.iterator-loop-pos.is_finite l.pos-iterator;
  left : AllByRecursion (HasRoom (all_marks l.set)) l.pos-iterator;
  room : AllByRecursion (HasRoom (all_marks l.set)) (flat l.fn.entities.items l.fn.rows l.fn.columns);
  others : (others : List Entity) → AllByRecursion (HasRoom (all_marks l.set)) (flat others l.fn.rows l.fn.columns);
  marked : (p : Position) → (is_among l.pos-iterator p || has (all_marks l.set) p) ≡ is_among (flat l.fn.entities.items l.fn.rows l.fn.columns) p;
}
