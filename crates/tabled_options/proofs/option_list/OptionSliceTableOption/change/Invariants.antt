use Rattle.tabled_options.proofs.Common.{AllByRecursion, CopiesAlike, Each, EachUntil, SameOr, drop}
use Rattle.tabled_options.proofs.option_list.OptionSliceTableOption.change.Given as goal

abbrev pub invariant-loop-option : goal.invariant-loop-option
invariant-loop-option g l =
    let t = g.T.TableOption in
    let grid = g.R.GridStore.grid in
    let rest = drop l.option-index l.option-items in
    record {
      well : g.R.GridStore.is_well_formed l.records;
      can : AllByRecursion (λ x. t.can_change x × CopiesAlike g.T.Clone.is_clone t.is_like x) rest;
      does : (h : _) (d : _) → Each t.does rest (grid l.records) l.cfg h d → Each t.does l.option-items (grid l.fn.records) l.fn.cfg h d;
      leaves : (h : _) (d : _) → EachUntil t.does (λ x. SameOr (t.leaves x)) rest (grid l.records) l.cfg h d → EachUntil t.does (λ x. SameOr (t.leaves x)) l.option-items (grid l.fn.records) l.fn.cfg h d;
    }
