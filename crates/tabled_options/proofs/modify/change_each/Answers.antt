use Rattle.tabled_options.proofs.Common.{inl, inr, refl, rules}
use Rattle.tabled_options.proofs.Results.{on_err}
use Rattle.tabled_options.proofs.Turns.{last_at, turn}
use Rattle.tabled_options.proofs.Until.{until_first, until_next}
use Rattle.tabled_options.proofs.modify.change_each.Goals as goal

pub change-requires-clause-can : goal.change-requires-clause-can
change-requires-clause-can g c = (g.met.M.CellOption.acts_like _ _ (c.requires.can.1 _ c.in_ok-copy.ensures.cases)).can_be_used c.requires.can.0

pub returns-in_err-copy-clause-err : goal.returns-in_err-copy-clause-err
returns-in_err-copy-clause-err g c = λ items gives.
    let i = c.loop-entity.invariant.lasts items gives in
    let t = turn g.I.Iterator.next_gives c.loop-entity.entities c.in-Some.entity c.next.new.self i.0 i.1 c.in-Some.ensures.steps in
    on_err c.from_residual.result (i.3 _ _ (rw t.is (until_first _ _ _ _ _ _ _ _ (inl (refl, refl)))))

pub loop-entity-preserved : goal.loop-entity-preserved
loop-entity-preserved g c =
    let alike = g.met.M.CellOption.acts_like _ _ (c.requires.can.1 _ c.in_ok-copy.ensures.cases) in
    let done = alike.does_alike _ _ _ _ _ c.in_ok-change.ensures.ok in
    record {
      can = search rules;
      ends = search rules;
      well = c.change.ensures.well;
      lasts = λ all gives.
          let i = c.loop-entity.invariant.lasts all gives in
          let t = turn g.I.Iterator.next_gives c.loop-entity.entities c.in-Some.entity c.next.new.self i.0 i.1 c.in-Some.ensures.steps in
          (t.rest, t.gives, (λ h d e. i.2 h d (rw t.is (_, _, done, e))), (λ h d e. i.3 h d (rw t.is (until_next _ _ _ _ _ _ _ _ h d done e))));
    }

pub returns-in_err-change-clause-err : goal.returns-in_err-change-clause-err
returns-in_err-change-clause-err g c = λ items gives.
    let i = c.loop-entity.invariant.lasts items gives in
    let t = turn g.I.Iterator.next_gives c.loop-entity.entities c.in-Some.entity c.next.new.self i.0 i.1 c.in-Some.ensures.steps in
    let alike = g.met.M.CellOption.acts_like _ _ (c.requires.can.1 _ c.in_ok-copy.ensures.cases) in
    on_err c.from_residual-in_err-change.result (i.3 _ _ (rw t.is (until_first _ _ _ _ _ _ _ _ (inr (alike.leaves_alike _ _ _ _ _ c.in_err-change.ensures.err)))))

pub returns-clause-ok : goal.returns-clause-ok
returns-clause-ok g c = λ items gives.
    let i = c.loop-entity.invariant.lasts items gives in
    i.2 _ _ (rw (last_at g.I.Iterator.next_gives c.loop-entity.entities c.next.new.self i.0 i.1 c.in_default.ensures.steps) (refl, refl))
