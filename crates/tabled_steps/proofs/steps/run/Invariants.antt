use Rattle.tabled_steps.proofs.Common.{◌+◌, ◌≡◌, Does, Each, EachUntilAt, Refused, into_iter_items, into_iter_len, length, ℕ}
use Rattle.tabled_steps.proofs.steps.run.Given as goal

abbrev pub invariant-loop-step : goal.invariant-loop-step
invariant-loop-step g l =
    let grid = g.R.GridStore.grid in
    let is_blank = g.R.Cell.Blank.is_blank in
    let text_of = g.R.Cell.CellText.text_of in
    record {
      can : (goal.iterator-loop-step g).can_next l.step-iterator;
      ends : (goal.iterator-loop-step g).is_finite l.step-iterator;
      well : g.R.GridStore.is_well_formed l.records;
      counted : into_iter_len l.step-iterator ≡ length (into_iter_items l.step-iterator);
      many : l.index + length (into_iter_items l.step-iterator) ≡ length l.fn.steps.items;
      does : (new : _) (new_cfg : _) → Each (Does is_blank text_of) (into_iter_items l.step-iterator) (grid l.records) l.cfg new new_cfg → Each (Does is_blank text_of) l.fn.steps.items (grid l.fn.records) l.fn.cfg new new_cfg;
      until : (k : ℕ) (new : _) (new_cfg : _) → EachUntilAt (Does is_blank text_of) (Refused is_blank text_of) (into_iter_items l.step-iterator) k (grid l.records) l.cfg new new_cfg → EachUntilAt (Does is_blank text_of) (Refused is_blank text_of) l.fn.steps.items (l.index + k) (grid l.fn.records) l.fn.cfg new new_cfg;
    }
