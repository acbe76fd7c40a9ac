use Rattle.tabled_options.proofs.Common.{drop_more, inl, inr, refl}
use Rattle.tabled_options.proofs.Results.{on_err}
use Rattle.tabled_options.proofs.Until.{until_first, until_next}
use Rattle.tabled_options.proofs.option_list.OptionSliceTableOption.change.Goals as goal

pub change-requires-clause-can : goal.change-requires-clause-can
change-requires-clause-can g c =
    let can = rw (drop_more _ _ c.option-item.result c.loop-option-test.true, ← c.option-item.is) at c.loop-option.invariant.can in
    (g.met.T.TableOption.acts_like _ _ (can.0.1 _ c.in_ok-clone.ensures.cases)).can_be_used can.0.0

pub loop-option-preserved : goal.loop-option-preserved
loop-option-preserved g c =
    let next = drop_more _ _ c.option-item.result c.loop-option-test.true in
    let can = rw (next, ← c.option-item.is) at c.loop-option.invariant.can in
    let alike = g.met.T.TableOption.acts_like _ _ (can.0.1 _ c.in_ok-clone.ensures.cases) in
    let done = alike.does_alike tt _ _ _ _ c.in_ok-change.ensures.ok in
    record {
      well = c.change.ensures.well;
      can = can.1;
      does = λ h d e. c.loop-option.invariant.does h d (rw (next, ← c.option-item.is) (_, _, done, e));
      leaves = λ h d e. c.loop-option.invariant.leaves h d (rw (next, ← c.option-item.is) (until_next _ _ _ _ _ _ _ _ h d done e));
    }

pub returns-in_err-clone-clause-err : goal.returns-in_err-clone-clause-err
returns-in_err-clone-clause-err g c =
    on_err c.from_residual.result (c.loop-option.invariant.leaves _ _ (rw (drop_more _ _ c.option-item.result c.loop-option-test.true)
    (until_first _ _ _ _ _ _ _ _ (inl (refl, refl)))))

pub returns-in_err-change-clause-err : goal.returns-in_err-change-clause-err
returns-in_err-change-clause-err g c =
    let next = drop_more _ _ c.option-item.result c.loop-option-test.true in
    let can = rw (next, ← c.option-item.is) at c.loop-option.invariant.can in
    let alike = g.met.T.TableOption.acts_like _ _ (can.0.1 _ c.in_ok-clone.ensures.cases) in
    on_err c.from_residual-in_err-change.result
    (c.loop-option.invariant.leaves _ _ (rw (next, ← c.option-item.is)
    (until_first _ _ _ _ _ _ _ _ (inr (alike.leaves_alike tt _ _ _ _ c.in_err-change.ensures.err)))))
