-- The option that is meant, where there is more of it than a letter.
use Rattle.std.proofs.lemmas.Bool.{lt-leb}
use Rattle.std.specs.Prelude.{Bool, false, if◌then◌else◌}
use Rattle.tabled_script.proofs.Common.{◌∙◌, ◌≡◌, None, ap, length, nat_le, sym}
use Rattle.tabled_script.proofs.refusal.meant_by.Goals as goal
use Rattle.tabled_script.specs.Refusals.{known_options, meant_by, meant_in}

pub returns : goal.returns
unfolding meant_by
returns c =
    let option = c.args.option.now in
    let long : nat_le (length option) 2 ≡ false = lt-leb (length option) 2 c.if-option-le2.false in
    c.meant_in.ensures ∙ ap (λ (is_short : Bool). if is_short then None else meant_in option known_options) (sym long)
