use Rattle.tabled_language.proofs.Common.{◌+◌, ◌-◌, ◌∙◌, ◌≡◌, ap, arith, drop, drop-drop, eqb, length-drop, length-take, position_or_len}
use Rattle.tabled_language.proofs.Separated.{behind_first, within_first}
use Rattle.tabled_language.proofs.parts.place_by.Goals as goal

pub returns-in-Some : goal.returns-in-Some
returns-in-Some c =
    let passed = c.loop-passed.passed in
    let n = passed + c.args.n - passed in
    let rest = drop passed c.args.bytes.now in
    let first = within_first c.args.at n rest c.in-Some.place c.in-Some.ensures.0 c.in-Some.ensures.1 in
    (c.loop-passed.invariant.place ∙ ap (λ k. passed + k) first, omega (arith, c.in-Some.ensures.1, length-take n rest, length-drop passed c.args.bytes.now))

pub loop-passed-preserved : goal.loop-passed-preserved
loop-passed-preserved c =
    let passed = c.loop-passed.passed in
    let n = passed + c.args.n - passed in
    let bytes = c.args.bytes.now in
    let later = behind_first c.args.at n (drop passed bytes) (omega (arith, length-drop passed bytes)) c.in_default.ensures in
    let others : drop n (drop passed bytes) ≡ drop (passed + c.args.n) bytes = drop-drop n passed bytes ∙ ap (λ k. drop k bytes) (omega arith) in
    record {
      place = c.loop-passed.invariant.place ∙ ap (λ k. passed + k) (later ∙ ap (λ bs. n + position_or_len (λ b. eqb b c.args.at) bs) others) ∙ omega arith;
      within = omega arith;
    }
