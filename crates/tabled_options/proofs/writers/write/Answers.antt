use Rattle.tabled_options.proofs.Common.{◌∙◌, ◌∷◌, ◌≡◌, FirstWrites, ap, arith, at_each, inside, inside-within, length, map_grid, refl, rules, subst, sym, with_cell, with_writes}
use Rattle.std.proofs.lemmas.Result.{on_err_weaker, on_ok_weaker}
use Rattle.tabled_options.proofs.Results.{on_err}
use Rattle.tabled_options.proofs.Writes.{some-next, some-none}
use Rattle.tabled_options.proofs.writers.write.Goals as goal

pub loop-next-init : goal.loop-next-init
loop-next-init g c =
    let first = g.R.GridStore.grid c.args.records.now in
    let all : inside c.args.entity first.rows first.columns ≡ c.in-Some.pos ∷ c.next.new.self = sym (rw (c.count_rows.ensures.rows, c.count_columns.ensures.columns) at c.iter-places.ensures) ∙ c.in-Some.ensures.steps in
    record {
      well = c.requires.well;
      rows = refl;
      columns = refl;
      inside = rw all at (inside-within c.args.entity first.rows first.columns);
      ok = rw all refl;
      err = λ h s. rw all s;
      some = λ none. omega (arith, ap length (sym all ∙ none));
    }

pub loop-next-preserved : goal.loop-next-preserved
loop-next-preserved g c =
    let i = c.loop-next.invariant in
    let text = g.T.CellText.text_of c.args.text in
    let left = at_each text (c.in-Some-next.next ∷ c.next-in-loop-next.new.self) in
    let texts = c.in_ok-set.ensures.texts ∙ ap (with_cell (map_grid g.R.Cell.CellText.text_of (g.R.GridStore.grid c.loop-next.records)) c.loop-next.pos) (c.requires.alike _ c.in_ok-clone.ensures.cases) in
    record {
      well = c.set.ensures.well;
      rows = search rules;
      columns = search rules;
      inside = (rw c.in-Some-next.ensures.steps at i.inside).1;
      ok = ap (with_writes left) texts ∙ rw c.in-Some-next.ensures.steps at i.ok;
      err = λ h s. i.err h (rw c.in-Some-next.ensures.steps (some-next _ _ _ h (subst (λ grid. FirstWrites left grid h) texts s)));
      some = i.some;
    }

pub returns-in_err-clone-clause-err : goal.returns-in_err-clone-clause-err
returns-in_err-clone-clause-err g c = on_err c.from_residual.result (c.loop-next.invariant.err _ (some-none _ _ _))

pub returns-in_err-set-clause-err : goal.returns-in_err-set-clause-err
returns-in_err-set-clause-err g c = on_err c.from_residual-in_err-set.result (c.loop-next.invariant.err _ (rw c.in_err-set.ensures.err (some-none _ _ _)))

pub returns-clause-err : goal.returns-clause-err
returns-clause-err g c =
    on_err_weaker c.set-2.result (λ same. rw same (c.loop-next.invariant.err _ (some-none _ _ _))) c.set-2.ensures.err

pub returns-clause-ok : goal.returns-clause-ok
returns-clause-ok g c =
    on_ok_weaker c.set-2.result (λ put. put ∙ rw c.in_default-next.ensures.steps.0 at c.loop-next.invariant.ok) c.set-2.ensures.texts
