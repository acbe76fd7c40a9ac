use Rattle.tabled_language.proofs.Common.{◌%◌, ◌+◌, ◌-◌, ◌∙◌, ap, arith, length, length-drop, length-take, take_rest}
use Rattle.tabled_language.proofs.Separated.{behind_first, within_first}
use Rattle.tabled_language.proofs.parts.far_place.Goals as goal

pub returns-in-Some : goal.returns-in-Some
returns-in-Some c =
    let bytes = c.args.bytes.now in
    let n = length bytes - length bytes % 64 in
    (within_first c.args.at n bytes c.in-Some.place c.in-Some.ensures.0 c.in-Some.ensures.1, omega (arith, c.in-Some.ensures.1, length-take n bytes))

pub returns-in-Some-near_place : goal.returns-in-Some-near_place
returns-in-Some-near_place c =
    let bytes = c.args.bytes.now in
    let n = length bytes - length bytes % 64 in
    let near = rw (take_rest bytes n) at c.in-Some-near_place.ensures in
    (behind_first c.args.at n bytes (omega arith) c.in_default.ensures ∙ ap (λ k. n + k) near.0, omega (arith, near.1, length-drop n bytes))

pub returns-in-None : goal.returns-in-None
returns-in-None c =
    let bytes = c.args.bytes.now in
    let n = length bytes - length bytes % 64 in
    let none = rw (take_rest bytes n) at c.in-None.ensures in
    behind_first c.args.at n bytes (omega arith) c.in_default.ensures ∙ ap (λ k. n + k) none ∙ omega (arith, length-drop n bytes)
