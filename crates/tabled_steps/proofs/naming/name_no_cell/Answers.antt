use Rattle.tabled_steps.proofs.Common.{[], ◌∙◌, ◌≡◌, ap, arith, flat, ne_eqb, refl, sym}
use Rattle.std.proofs.lemmas.List.{take_all}
use Rattle.tabled_steps.proofs.NamesNone.{none_more, some_named}
use Rattle.tabled_steps.proofs.naming.name_no_cell.Goals as goal

pub loop-entity-preserved : goal.loop-entity-preserved
loop-entity-preserved c = none_more c.args.entities.now c.loop-entity.entity-index c.args.rows c.args.columns c.loop-entity-test.true c.loop-entity.invariant (sym c.iter.ensures ∙ c.in-None.ensures.steps.0)

pub returns-in-Some : goal.returns-in-Some
returns-in-Some c =
    let some = some_named c.args.entities.now c.loop-entity.entity-index c.args.rows c.args.columns c.loop-entity-test.true _ _ (sym c.iter.ensures ∙ c.in-Some.ensures.steps) in
    sym (ne_eqb _ 0 (λ e. omega (arith, e, some)))

pub returns : goal.returns
returns c =
    let items = c.args.entities.now in
    let none : flat items c.args.rows c.args.columns ≡ [] = ap (λ es. flat es c.args.rows c.args.columns) (sym (take_all c.loop-entity.entity-index items c.loop-entity-test.false)) ∙ c.loop-entity.invariant in
    rw none refl
