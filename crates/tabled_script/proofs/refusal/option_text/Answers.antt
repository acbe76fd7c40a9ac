use Rattle.tabled_script.proofs.Common.{◌++◌, ◌∙◌, List, ap, ap₂, ℕ}
use Rattle.tabled_script.proofs.refusal.option_text.Goals as goal
use Rattle.tabled_script.specs.Refusals.{cure_of}

pub returns : goal.returns
returns c =
    let option = c.args.option.now in
    c.in_ok-push_cure.ensures
    ∙ ap₂ (λ (bytes cure : List ℕ). bytes ++ cure) (c.in_ok-push_str.ensures.bytes ∙ ap (λ (bytes : List ℕ). bytes ++ option) c.in_ok-text.ensures.ok) (ap (cure_of option) c.meant_by.ensures)
