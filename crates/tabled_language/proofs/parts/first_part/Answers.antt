use Rattle.tabled_language.proofs.Common.{◌+◌, ◌∙◌, ◌∷◌, List, ap, arith, eqb, slice_split, sym, take, take_rest, ℕ}
use Rattle.tabled_language.proofs.Separated.{one_part, part_and_others}
use Rattle.tabled_language.proofs.parts.first_part.Goals as goal

pub returns-in-Some : goal.returns-in-Some
returns-in-Some c =
    let bytes = c.args.bytes.now in
    let place = c.in-Some.place in
    part_and_others c.args.at bytes place c.in-Some.ensures.0 c.in-Some.ensures.1 ∙ ap (λ (others : List ℕ). take place bytes ∷ slice_split (λ b. eqb b c.args.at) others) (sym (take_rest bytes (place + 1)))

pub returns-in-None : goal.returns-in-None
returns-in-None c = one_part c.args.at c.args.bytes.now (omega (arith, c.in-None.ensures))
