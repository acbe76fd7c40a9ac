use Rattle.tabled_options.proofs.Common.{AllByRecursion, Each, EachUntil, NeverRefused, into_iter_items, length}
use Rattle.tabled_options.proofs.option_list.VecTableOption.change.Given as goal

abbrev pub invariant-loop-option : goal.invariant-loop-option
invariant-loop-option g l =
    let t = g.T.TableOption in
    let grid = g.R.GridStore.grid in
    record {
      well : g.R.GridStore.is_well_formed l.records;
      can : AllByRecursion t.can_change (into_iter_items l.options);
      never : NeverRefused t.does t.never_refused l.fn.self.items (grid l.fn.records) l.fn.cfg → NeverRefused t.does t.never_refused (into_iter_items l.options) (grid l.records) l.cfg;
      does : (h : _) (d : _) → Each t.does (into_iter_items l.options) (grid l.records) l.cfg h d → Each t.does l.fn.self.items (grid l.fn.records) l.fn.cfg h d;
      leaves : (h : _) (d : _) → EachUntil t.does t.leaves (into_iter_items l.options) (grid l.records) l.cfg h d → EachUntil t.does t.leaves l.fn.self.items (grid l.fn.records) l.fn.cfg h d;
    }

abbrev pub decreases-loop-option : goal.decreases-loop-option
decreases-loop-option g l = length (into_iter_items l.options)
