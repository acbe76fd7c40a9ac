use Rattle.tabled_steps.proofs.Common.{[], ◌∷◌, ◌≡◌, inr, map_grid, on_err_weaker, on_ok_weaker, refl, selected, sym}
use Rattle.tabled_steps.proofs.RepresentedChanges.{represented, represented_refused}
use Rattle.tabled_steps.proofs.StepsUntil.{first_refused}
use Rattle.tabled_steps.proofs.representatives.change_each.Goals as goal

pub returns-in-Some-clause-ok : goal.returns-in-Some-clause-ok
returns-in-Some-clause-ok g c =
    let texts = map_grid g.R.Cell.CellText.text_of (g.R.GridStore.grid c.args.records.now) in
    let one : selected texts c.args.select ≡ c.in-Some.entity ∷ [] = c.in-Some.ensures.selected texts in
    on_ok_weaker c.change.result (λ did. (c.in-Some.entity ∷ [], sym one, (_, _, did, (refl, refl)))) c.change.ensures.ok

pub returns-in-Some-clause-err : goal.returns-in-Some-clause-err
returns-in-Some-clause-err g c =
    let texts = map_grid g.R.Cell.CellText.text_of (g.R.GridStore.grid c.args.records.now) in
    let one : selected texts c.args.select ≡ c.in-Some.entity ∷ [] = c.in-Some.ensures.selected texts in
    on_err_weaker c.change.result (λ left. inr (c.in-Some.entity ∷ [], sym one, (0, first_refused _ _ _ _ _ _ _ _ (inr left)))) c.change.ensures.err

pub returns-in-Some-clause-promised : goal.returns-in-Some-clause-promised
returns-in-Some-clause-promised g c = λ never. c.change.ensures.promised (rw (sym c.in-Some.ensures.single) at never)

pub returns-in-None-clause-ok : goal.returns-in-None-clause-ok
returns-in-None-clause-ok g c =
    on_ok_weaker c.change-in-None.result (λ did. represented g.R.Cell.CellText.text_of c.args.select _ _ c.requires.local _ _ _ _ did) (rw c.list.ensures at c.change-in-None.ensures.ok)

pub returns-in-None-clause-err : goal.returns-in-None-clause-err
returns-in-None-clause-err g c =
    on_err_weaker c.change-in-None.result (λ left. represented_refused g.R.Cell.CellText.text_of c.args.select _ _ c.requires.local _ _ _ _ left) (rw c.list.ensures at c.change-in-None.ensures.err)
