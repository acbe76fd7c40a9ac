use Rattle.tabled_steps.proofs.Common.{◌∙◌, ap, drop}
use Rattle.tabled_steps.proofs.GroupSteps.{once-skipped}
use Rattle.tabled_steps.proofs.groups.Groups.skip.Goals as goal

pub returns-in_ok-entities-in-Each : goal.returns-in_ok-entities-in-Each
returns-in_ok-entities-in-Each g c = λ rows columns entities grouped.
    let is = c.in_ok-entities-in-Each.ensures in
    once-skipped rows columns entities c.in-Each.listed.items (rw c.in-Each.is at grouped) c.args.n c.in_ok-entities-in-Each.field-0.items (is.2 ∙ ap (drop c.skip.result.1) is.1 ∙ ap (λ (s : _). drop s.1 s.0.0.items) c.skip.ensures)
