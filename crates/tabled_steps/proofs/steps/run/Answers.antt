use Rattle.tabled_steps.proofs.Common.{◌+◌, ◌∙◌, ◌≡◌, IsEven-map_grid, Refused, ap, arith, false≢true, flattened, length, refl, rules, state_of, suc, sym}
use Rattle.tabled_steps.proofs.AfterSteps.{after_each}
use Rattle.tabled_steps.proofs.EvenStates.{after_flattened, undone_midway}
use Rattle.tabled_steps.proofs.Fitting.{steps_keep}
use Rattle.tabled_steps.proofs.RefusedParts.{undone_before}
use Rattle.tabled_steps.proofs.StepsUntil.{first_refused, later_refused, none_left}
use Rattle.tabled_steps.proofs.steps.run.Goals as goal

pub loop-step-preserved : goal.loop-step-preserved
loop-step-preserved g c =
    let items = c.in-Some.ensures.steps.0 in
    let lengths = ap length items in
    record {
      can = search rules;
      ends = search rules;
      well = c.change.ensures.well;
      counted = omega (arith, lengths, c.in-Some.ensures.steps.1, c.loop-step.invariant.counted);
      many = omega (arith, lengths, c.loop-step.invariant.many);
      does = λ new new_cfg e. c.loop-step.invariant.does new new_cfg (rw items (_, _, c.in_default.ensures.ok, e));
      until = λ k new new_cfg e.
          let next = later_refused _ _ _ _ _ _ _ _ k new new_cfg c.in_default.ensures.ok e in
          let same : c.loop-step.index + suc k ≡ (c.loop-step.index + 1) + k = omega arith in
          let until = c.loop-step.invariant.until (suc k) new new_cfg (rw items next) in
          (rw same at until);
    }

pub returns-in-Err-clause-err : goal.returns-in-Err-clause-err
returns-in-Err-clause-err g c =
    let refused : Refused g.R.Cell.Blank.is_blank g.R.Cell.CellText.text_of c.in-Some.step (g.R.GridStore.grid c.loop-step.records) c.loop-step.cfg (g.R.GridStore.grid c.change.new.records) c.change.new.cfg = (c.in-Err.ensures.err, λ none. false≢true (c.in-Err.ensures.promised none)) in
    let first = first_refused _ _ _ _ _ _ _ _ refused in
    let same : c.loop-step.index + 0 ≡ c.loop-step.index = omega arith in
    let until = c.loop-step.invariant.until 0 (g.R.GridStore.grid c.change.new.records) c.change.new.cfg (rw c.in-Some.ensures.steps.0 first) in
    (rw same at until)

pub returns-in-Err-clause-fitting : goal.returns-in-Err-clause-fitting
returns-in-Err-clause-fitting g c = λ all fits. (steps_keep g.R.Cell.Blank.is_blank g.R.Cell.CellText.text_of c.args.steps.items all).refused _ _ _ _ fits (c.loop-step.index, returns-in-Err-clause-err g c)

pub returns-in-Err-clause-glued_before : goal.returns-in-Err-clause-glued_before
returns-in-Err-clause-glued_before g c =
    let grid = g.R.GridStore.grid in
    undone_before g.R.Cell.Blank.is_blank g.R.Cell.CellText.text_of c.args.steps.items c.loop-step.index (grid c.args.records.now) c.args.cfg.now (grid c.change.new.records) c.change.new.cfg (g.R.GridStore.even _ c.requires.well) (returns-in-Err-clause-err g c)

pub returns-clause-ok : goal.returns-clause-ok
returns-clause-ok g c =
    let none = none_left _ (sym c.loop-step.invariant.counted ∙ c.in-None.ensures.steps.0) in
    c.loop-step.invariant.does _ _ (rw none (refl, refl))

pub returns-clause-state : goal.returns-clause-state
returns-clause-state g c = after_each g.R.Cell.CellText.text_of g.R.Cell.Blank.is_blank c.args.steps.items _ _ _ _ (returns-clause-ok g c)

pub returns-clause-fitting : goal.returns-clause-fitting
returns-clause-fitting g c = λ all fits. (steps_keep g.R.Cell.Blank.is_blank g.R.Cell.CellText.text_of c.args.steps.items all).done _ _ _ _ fits (returns-clause-ok g c)

pub returns-clause-glued : goal.returns-clause-glued
returns-clause-glued g c =
    let text_of = g.R.Cell.CellText.text_of in
    let grid = g.R.GridStore.grid in
    let items = c.args.steps.items in
    let old = state_of text_of (grid c.args.records.now) c.args.cfg.now in
    let even = IsEven-map_grid text_of (grid c.args.records.now) (g.R.GridStore.even _ c.requires.well) in
    λ first rest split are. undone_midway (flattened items) first rest split old (state_of text_of (grid c.loop-step.records) c.loop-step.cfg) even are (returns-clause-state g c ∙ sym (after_flattened items old))
