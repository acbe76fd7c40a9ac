use Rattle.tabled_options.proofs.Results.{on_err}
use Rattle.tabled_options.proofs.Until.{until_first, until_next}
use Rattle.tabled_options.proofs.option_list.VecTableOption.change.Goals as goal

pub change-requires-clause-can : goal.change-requires-clause-can
change-requires-clause-can g c = (rw c.in-Some.ensures.items at c.loop-option.invariant.can).0

pub loop-option-preserved : goal.loop-option-preserved
loop-option-preserved g c = record {
  well = c.change.ensures.well;
  can = (rw c.in-Some.ensures.items at c.loop-option.invariant.can).1;
  never = λ n. (rw c.in-Some.ensures.items at (c.loop-option.invariant.never n)).1 _ _ c.in_ok-change.ensures.ok;
  does = λ h d e. c.loop-option.invariant.does h d (rw c.in-Some.ensures.items (_, _, c.in_ok-change.ensures.ok, e));
  leaves = λ h d e. c.loop-option.invariant.leaves h d (rw c.in-Some.ensures.items (until_next _ _ _ _ _ _ _ _ h d c.in_ok-change.ensures.ok e));
}

pub returns-in_err-change-clause-err : goal.returns-in_err-change-clause-err
returns-in_err-change-clause-err g c =
    on_err c.from_residual.result (c.loop-option.invariant.leaves _ _ (rw c.in-Some.ensures.items (until_first _ _ _ _ _ _ _ _ c.in_err-change.ensures.err)))
