use Rattle.tabled_settings.proofs.Common.{◌≡◌, TellsLocated}
use Rattle.tabled_settings.specs.Kept.{taken_in_order}
use Rattle.tabled_settings.proofs.keep.taken_in_order.Given as goal

abbrev pub invariant-loop-index : goal.invariant-loop-index
invariant-loop-index g l = record {
  can : (goal.iterator-loop-index g).can_next l.index-iterator;
  ends : (goal.iterator-loop-index g).is_finite l.index-iterator;
  told : TellsLocated l.yielded l.fn.count l.taken.items;
  in_order : l.indexes.items ≡ taken_in_order l.yielded l.fn.count;
}
