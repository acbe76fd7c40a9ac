use Rattle.tabled_script.proofs.Common.{◌≡◌, after_all, grid_of, into_iter_items, into_iter_len, length, map_items}
use Rattle.tabled_grid.specs.Grid.{IsEven}
use Rattle.tabled_script.specs.InMemory.{state_in}
use Rattle.tabled_script.proofs.checked.run_checked.Given as goal

abbrev pub invariant-loop-step : goal.invariant-loop-step
invariant-loop-step g l = record {
  can : (goal.iterator-loop-step g).can_next l.step-iterator;
  ends : (goal.iterator-loop-step g).is_finite l.step-iterator;
  counted : into_iter_len l.step-iterator ≡ length (into_iter_items l.step-iterator);
  well : IsEven (grid_of (map_items l.records.items));
  leads : after_all (into_iter_items l.step-iterator) (state_in l.records.items l.cfg) ≡ after_all l.fn.steps.items (state_in l.fn.records.items l.fn.cfg);
}
