use Rattle.tabled_language.proofs.Common.{◌+◌, ◌≡◌, arith, false, all_fit, subst, take}
use Rattle.tabled_language.proofs.spans.first_misfit.Goals as goal

pub returns : goal.returns
returns c =
    let i = c.loop-failing.fitting in
    let j = c.loop-failing.failing in
    let kept = c.loop-failing.invariant in
    let next : j ≡ i + 1 = omega (arith, kept.1, c.loop-failing-test.false) in
    record { within = omega (arith, kept.1, kept.2); before = kept.3; there = subst (λ n. all_fit c.args.rows c.args.columns (take n c.args.anchors.now) ≡ false) next kept.4 }
